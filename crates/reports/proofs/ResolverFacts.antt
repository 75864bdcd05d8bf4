-- What resolves a hold, one SYSMOD at a time.
use Rattle.std.proofs.Common.{◌≡◌, ◌∙◌, ℕ, zero, suc, ◌+◌, ◌<◌, true, List, [], ◌∷◌, ◌++◌, Option, Some, filter_map, get_or, length, map, take, refl, sym, subst, ap, arith}
use Rattle.std.specs.BTreeSet.{insert_key}
use Rattle.std.specs.List.{Contains, cons_option, flat_map, slice_get}
use Rattle.std.proofs.lemmas.Grind.{flat_map-append}
use Rattle.std.proofs.lemmas.List.{append-nil, map-append, take_more}
use Rattle.std.proofs.lemmas.List.Elements.{Contains-get_or}
use Rattle.std.proofs.lemmas.List.Sums.{fold-append}
use Rattle.std.proofs.lemmas.List.Folds.{list_any-append}
use Rattle.std.proofs.lemmas.Bool.{or_right}
use Rattle.lemmas.proofs.ListFacts.{filter_map_push}
use Rattle.catalogue.specs.Ids.{id_cmp, in_order, put_among, same_id}
use Rattle.catalogue.proofs.IdFacts.{in_order_any}
use Rattle.supersede.specs.Reach.{has}
use Rattle.supersede.proofs.ReachFacts.{has_from}
use Rattle.reports.specs.Resolvers.{AreAmong}

-- what stands at an index of a list stands, mapped, at that index of the mapped list
pub get_mapped : {X Y : Type 0} → (f : X → Y) (xs : List X) (k : ℕ) (x : X) → slice_get xs k ≡ Some x → slice_get (map f xs) k ≡ Some (f x)
get_mapped f [] k x at = absurd (cc at)
get_mapped f (y ∷ ys) zero x at = let is : y ≡ x = cc at in ap (λ z. Some (f z)) is
get_mapped f (y ∷ ys) (suc k) x at = get_mapped f ys k x at

-- one more element is taken to several
pub flat_map_more : {X Y : Type 0} → (f : X → List Y) (xs : List X) (i : ℕ) (x : X) (old new : List Y) → i < length xs → x ≡ get_or xs i x → old ≡ flat_map f (take i xs) → new ≡ old ++ f x
    → new ≡ flat_map f (take (i + 1) xs)
flat_map_more f xs i x old new below at was now =
    now
    ∙ ap (λ front. front ++ f x) was
    ∙ ap (λ last. flat_map f (take i xs) ++ last) (sym (append-nil (f x)))
    ∙ sym (flat_map-append f (take i xs) (x ∷ []))
    ∙ ap (flat_map f) (sym (take_more xs i x below ∙ ap (λ z. take i xs ++ z ∷ []) (sym at)))

-- what one more names is put among others, in order
pub named_more : {X : Type 0} → (names : X → List (List ℕ)) (xs : List X) (i : ℕ) (x : X) (old new : List (List ℕ)) → i < length xs → x ≡ get_or xs i x
    → old ≡ in_order (flat_map names (take i xs)) → new ≡ put_among old (names x) → new ≡ in_order (flat_map names (take (i + 1) xs))
named_more names xs i x old new below at was now =
    now
    ∙ ap (λ ids. put_among ids (names x)) was
    ∙ sym (fold-append (insert_key id_cmp) [] (flat_map names (take i xs)) (names x))
    ∙ ap in_order (flat_map_more names xs i x (flat_map names (take i xs)) (flat_map names (take i xs) ++ names x) below at refl refl)

-- what a list names stands in it
names_has : {X : Type 0} → (names : X → List (List ℕ)) (xs : List X) (k : ℕ) (d : X) (id : List ℕ) → k < length xs → has (names (get_or xs k d)) id ≡ true → has (flat_map names xs) id ≡ true
names_has names [] k d id within h = absurd (omega arith)
names_has names (x ∷ xs) zero d id within h = list_any-append (same_id id) (names x) (flat_map names xs) ∙ rw h refl
names_has names (x ∷ xs) (suc k) d id within h =
    list_any-append (same_id id) (names x) (flat_map names xs) ∙ or_right (has (names x) id) (has (flat_map names xs) id) (names_has names xs k d id (omega arith) h)

-- what one of a list names was asked for
pub named_asked : {X : Type 0} → (names : X → List (List ℕ)) (xs : List X) (i : ℕ) (x : X) (asked : List (List ℕ)) (id : List ℕ) → i < length xs → x ≡ get_or xs i x
    → asked ≡ in_order (flat_map names xs) → has (names x) id ≡ true → has asked id ≡ true
named_asked names xs i x asked id below at are h =
    ap (λ ids. has ids id) are ∙ in_order_any (same_id id) (flat_map names xs) ∙ names_has names xs i x id below (ap (λ one. has (names one) id) (sym at) ∙ h)

-- one more is made of several, if anything is made of it
pub filter_map_more : {X Y : Type 0} → (f : X → Option Y) (xs : List X) (i : ℕ) (x : X) (old new : List Y) → i < length xs → x ≡ get_or xs i x → old ≡ filter_map f (take i xs)
    → new ≡ old ++ cons_option (f x) [] → new ≡ filter_map f (take (i + 1) xs)
filter_map_more f xs i x old new below at was now =
    now
    ∙ ap (λ front. front ++ cons_option (f x) []) was
    ∙ filter_map_push f (take i xs) x
    ∙ ap (filter_map f) (sym (take_more xs i x below ∙ ap (λ z. take i xs ++ z ∷ []) (sym at)))

-- one more is told
pub map_more : {X Y : Type 0} → (f : X → Y) (xs : List X) (i : ℕ) (x : X) (y : Y) (old new : List Y) → i < length xs → x ≡ get_or xs i x → old ≡ map f (take i xs) → y ≡ f x
    → new ≡ old ++ y ∷ [] → new ≡ map f (take (i + 1) xs)
map_more f xs i x y old new below at was is now =
    now
    ∙ ap (λ front. front ++ y ∷ []) was
    ∙ ap (λ last. map f (take i xs) ++ last ∷ []) is
    ∙ sym (map-append f (take i xs) (x ∷ []))
    ∙ ap (map f) (sym (take_more xs i x below ∙ ap (λ z. take i xs ++ z ∷ []) (sym at)))

-- one of those that are among others is
pub among_at : (ids others : List (List ℕ)) (i : ℕ) (id : List ℕ) → i < length ids → id ≡ get_or ids i id → AreAmong ids others → has others id ≡ true
among_at ids others i id below at among =
    let P : List ℕ → Type 0 = λ x. Contains ids x in
    among id (has_from ids id (subst P (sym at) (Contains-get_or ids i id below)))

-- what stands at an index of a mapped list is what stands there, mapped
pub get_unmapped : {X Y : Type 0} → (f : X → Y) (xs : List X) (k : ℕ) (y : Y) → slice_get (map f xs) k ≡ Some y → (x : X) × (slice_get xs k ≡ Some x) × (f x ≡ y)
get_unmapped f [] k y at = absurd (cc at)
get_unmapped f (x ∷ xs) zero y at = (x, refl, cc at)
get_unmapped f (x ∷ xs) (suc k) y at = get_unmapped f xs k y at

-- what was answered for ids, as the calls have it that ask and that read the answers
pub answers_read : {X Y Answer : Type 0} (said : Answer → Y) (f : X → Y) (asked read : List X) (answers given : List Answer) → read ≡ asked → given ≡ answers
    → map said answers ≡ map f asked → map said given ≡ map f read
answers_read said f asked read answers given same_ids same are = ap (map said) same ∙ are ∙ ap (map f) (sym same_ids)
