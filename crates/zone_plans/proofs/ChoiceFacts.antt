-- What is taken of lists, one after the other.
use Rattle.std.proofs.Common.{◌≡◌, ◌∙◌, ◌||◌, ◌+◌, ◌<◌, ℕ, List, [], ◌∷◌, ◌++◌, Bool, true, false, cond, Option, length, get_or, take, map, sym, ap}
use Rattle.std.specs.BTreeSet.{insert_key}
use Rattle.std.specs.List.{cons_option, filter, filter_map, list_any}
use Rattle.std.proofs.lemmas.List.{map-append, take_more}
use Rattle.std.proofs.lemmas.List.Sums.{fold-append}
use Rattle.std.proofs.lemmas.List.Elements.{filter-append}
use Rattle.lemmas.proofs.ListFacts.{filter_map_push}
use Rattle.catalogue.specs.Ids.{id_cmp, in_order, put_among}

-- one more answer is that of one more asked
pub map_more : {X Y : Type 0} (f : X → Y) (xs : List X) (i : ℕ) (x : X) (y : Y) (old new : List Y) → i < length xs → x ≡ get_or xs i x
    → old ≡ map f (take i xs) → y ≡ f x → new ≡ old ++ y ∷ [] → new ≡ map f (take (i + 1) xs)
map_more f xs i x y old new below at was is now =
    now
    ∙ ap (λ l. l ++ y ∷ []) was
    ∙ ap (λ z. map f (take i xs) ++ z ∷ []) is
    ∙ sym (map-append f (take i xs) (x ∷ []))
    ∙ ap (map f) (sym (take_more xs i x below ∙ ap (λ z. take i xs ++ z ∷ []) (sym at)))

-- what one more makes is put among the others
pub made_more : {X : Type 0} (f : X → Option (List ℕ)) (xs : List X) (i : ℕ) (x : X) (old new : List (List ℕ)) → i < length xs → x ≡ get_or xs i x → old ≡ in_order (filter_map f (take i xs))
    → new ≡ put_among old (cons_option (f x) []) → new ≡ in_order (filter_map f (take (i + 1) xs))
made_more f xs i x old new below at was now =
    now ∙ ap (λ ids. put_among ids (cons_option (f x) [])) was
    ∙ sym (fold-append (insert_key id_cmp) [] (filter_map f (take i xs)) (cons_option (f x) []))
    ∙ ap in_order (filter_map_push f (take i xs) x ∙ ap (filter_map f) (sym (take_more xs i x below ∙ ap (λ z. take i xs ++ z ∷ []) (sym at))))

-- what passes of one more
pub filter_more : {X : Type 0} (f : X → Bool) (xs : List X) (i : ℕ) (x : X) (old new : List X) → i < length xs → x ≡ get_or xs i x → old ≡ filter f (take i xs) → new ≡ old ++ cond (f x) (x ∷ []) [] → new ≡ filter f (take (i + 1) xs)
filter_more f xs i x old new below at was now =
    now ∙ ap (λ l. l ++ cond (f x) (x ∷ []) []) was ∙ sym (filter-append f (take i xs) (x ∷ []))
    ∙ ap (filter f) (sym (take_more xs i x below ∙ ap (λ z. take i xs ++ z ∷ []) (sym at)))

-- none passes so far, and one more doesn't
any_push : {X : Type 0} (f : X → Bool) (xs : List X) (x : X) → list_any f xs ≡ false → f x ≡ false → list_any f (xs ++ x ∷ []) ≡ false
any_push f [] x none off = ap (λ b. b || false) off
any_push {X} f (y ∷ ys) x none off = go (f y) (λ (rest : list_any f ys ≡ false). any_push f ys x rest off) none where
  go : (b : Bool) → (list_any f ys ≡ false → list_any f (ys ++ x ∷ []) ≡ false) → (b || list_any f ys) ≡ false → (b || list_any f (ys ++ x ∷ [])) ≡ false
  go true further e = absurd (cc e)
  go false further e = further e

pub none_more : {X : Type 0} (f : X → Bool) (xs : List X) (i : ℕ) (x : X) → i < length xs → x ≡ get_or xs i x → list_any f (take i xs) ≡ false → f x ≡ false → list_any f (take (i + 1) xs) ≡ false
none_more f xs i x below at none off =
    ap (list_any f) (take_more xs i x below ∙ ap (λ z. take i xs ++ z ∷ []) (sym at)) ∙ any_push f (take i xs) x none off

-- one more id that is made is put among the others
pub put_ids_more : {X : Type 0} (f : X → List ℕ) (keys : List (List ℕ)) (xs : List X) (i : ℕ) (x : X) (old new : List (List ℕ)) → i < length xs → x ≡ get_or xs i x
    → old ≡ put_among keys (map f (take i xs)) → new ≡ insert_key id_cmp old (f x) → new ≡ put_among keys (map f (take (i + 1) xs))
put_ids_more f keys xs i x old new below at was now =
    now ∙ ap (λ ids. insert_key id_cmp ids (f x)) was
    ∙ sym (fold-append (insert_key id_cmp) keys (map f (take i xs)) (f x ∷ []))
    ∙ ap (put_among keys) (sym (map-append f (take i xs) (x ∷ [])) ∙ ap (map f) (sym (take_more xs i x below ∙ ap (λ z. take i xs ++ z ∷ []) (sym at))))
