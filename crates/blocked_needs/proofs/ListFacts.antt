-- Lists, and ids put where they belong.
use Rattle.std.proofs.Common.{◌≡◌, ◌∙◌, ◌⊎◌, ◌<◌, ◌+◌, ℕ, zero, suc, List, [], ◌∷◌, ◌++◌, Bool, true, false, cond, Option, Some, None, is_some, length, get_or, take, map, refl, sym, ap, subst, inl, inr, arith}
use Rattle.std.specs.BTreeMap.{insert_entry, is_at}
use Rattle.std.specs.BTreeSet.{insert_key}
use Rattle.std.specs.Cmp.Lexicographic.{nat_list_eq_equiv}
use Rattle.std.specs.List.{Contains, cons_option, filter_map, find, list_any}
use Rattle.std.specs.Map.{lookup}
use Rattle.std.specs.Ordering.{match_ordering, is_eq}
use Rattle.std.specs.declared.cmp.Ordering.{Ordering}
use Rattle.std.specs.declared.cmp.Ordering.TheVariants.{Less, Equal, Greater}
use Rattle.std.proofs.lemmas.List.{take_more}
use Rattle.std.proofs.lemmas.Map.Views.{Contains-from_any, list_any-from_Contains}
use Rattle.std.proofs.lemmas.Bool.{or_right, or_left, or_cases}
use Rattle.lemmas.proofs.ListFacts.{filter_map_push, first_inside, rest_inside}
use Rattle.catalogue.specs.Ids.{id_cmp, same_id}
use Rattle.catalogue.proofs.IdFacts.{any_insert, exact_ids, itself, one_id, same_is}

-- ---- one id put where it belongs

pub put_first : (ids : List (List ℕ)) (k : List ℕ) → Contains (insert_key id_cmp ids k) k
put_first ids k =
    Contains-from_any {eq = same_id} one_id k (insert_key id_cmp ids k) (any_insert (same_id k) ids k ∙ or_left (same_id k k) (list_any (same_id k) ids) (itself k))

pub put_rest : (ids : List (List ℕ)) (k x : List ℕ) → Contains ids x → Contains (insert_key id_cmp ids k) x
put_rest ids k x inside =
    Contains-from_any {eq = same_id} one_id x (insert_key id_cmp ids k)
    (any_insert (same_id x) ids k ∙ or_right (same_id x k) (list_any (same_id x) ids) (list_any-from_Contains {eq = same_id} nat_list_eq_equiv x ids inside))

pub put_from : (ids : List (List ℕ)) (k x : List ℕ) → Contains (insert_key id_cmp ids k) x → (k ≡ x) ⊎ Contains ids x
put_from ids k x inside =
    elim (or_cases (same_id x k) (list_any (same_id x) ids) (sym (any_insert (same_id x) ids k) ∙ list_any-from_Contains {eq = same_id} nat_list_eq_equiv x (insert_key id_cmp ids k) inside)) [
      | inl same ↦ inl (sym (one_id x k same))
      | inr later ↦ inr (Contains-from_any {eq = same_id} one_id x ids later)
    ]

-- the entry of one more id, where each entry is that of its id
pub put_entry : {X : Type 0} (f : List ℕ → X) (ids : List (List ℕ)) (k : List ℕ) → insert_entry id_cmp (map (λ id. (id, f id)) ids) k (f k) ≡ map (λ id. (id, f id)) (insert_key id_cmp ids k)
put_entry f [] k = refl
put_entry {X} f (x ∷ xs) k = go (id_cmp k x) refl (put_entry f xs k) where
  go : (o : Ordering) → id_cmp k x ≡ o → insert_entry id_cmp (map (λ id. (id, f id)) xs) k (f k) ≡ map (λ id. (id, f id)) (insert_key id_cmp xs k)
      → match_ordering o ((k, f k) ∷ (x, f x) ∷ map (λ id. (id, f id)) xs) ((x, f k) ∷ map (λ id. (id, f id)) xs) ((x, f x) ∷ insert_entry id_cmp (map (λ id. (id, f id)) xs) k (f k))
      ≡ map (λ id. (id, f id)) (match_ordering o (k ∷ x ∷ xs) (x ∷ xs) (x ∷ insert_key id_cmp xs k))
  go Less e rest = refl
  go Equal e rest = ap (λ y. (x, f y) ∷ map (λ id. (id, f id)) xs) (exact_ids k x e)
  go Greater e rest = ap (λ l. (x, f x) ∷ l) rest

-- an id of which there is an entry
pub entry_inside : {X : Type 0} (f : List ℕ → X) (ids : List (List ℕ)) (k : List ℕ) → is_some (lookup (is_at (id_cmp k)) (map (λ id. (id, f id)) ids)) ≡ true → Contains ids k
entry_inside f [] k h = absurd (cc h)
entry_inside {X} f (x ∷ xs) k h = go (is_eq (id_cmp k x)) refl (λ (rest : is_some (lookup (is_at (id_cmp k)) (map (λ id. (id, f id)) xs)) ≡ true). entry_inside f xs k rest) h where
  go : (b : Bool) → is_eq (id_cmp k x) ≡ b → (is_some (lookup (is_at (id_cmp k)) (map (λ id. (id, f id)) xs)) ≡ true → Contains xs k) → is_some (cond b (Some (f x)) (lookup (is_at (id_cmp k)) (map (λ id. (id, f id)) xs))) ≡ true → Contains (x ∷ xs) k
  go true e further h = (let P : List ℕ → Type 0 = λ y. Contains (x ∷ xs) y in subst P (sym (one_id k x (same_is k x ∙ e))) (first_inside x xs))
  go false e further h = rest_inside x k xs (further h)

-- ---- what is made of some elements

-- what is made of what is made
pub filter_map_map : {A B C : Type 0} (g : A → B) (f : B → Option C) (xs : List A) → filter_map f (map g xs) ≡ filter_map (λ x. f (g x)) xs
filter_map_map g f [] = refl
filter_map_map g f (x ∷ xs) = ap (cons_option (f (g x))) (filter_map_map g f xs)

pub filter_map_more : {X Y : Type 0} (f : X → Option Y) (xs : List X) (i : ℕ) (x : X) (old new : List Y) → i < length xs → x ≡ get_or xs i x → old ≡ filter_map f (take i xs) → new ≡ old ++ cons_option (f x) [] → new ≡ filter_map f (take (i + 1) xs)
filter_map_more f xs i x old new below at was now =
    now ∙ ap (λ l. l ++ cons_option (f x) []) was ∙ filter_map_push f (take i xs) x
    ∙ ap (filter_map f) (sym (take_more xs i x below ∙ ap (λ z. take i xs ++ z ∷ []) (sym at)))

-- ---- the first that passes

-- where none of those before passes, the first is found among the others
pub find_later : {X : Type 0} (f : X → Bool) (xs : List X) (i : ℕ) (x : X) → i < length xs → x ≡ get_or xs i x → find f (take i xs) ≡ None → f x ≡ false → find f (take (i + 1) xs) ≡ None
find_later f xs i x below at none off =
    ap (find f) (take_more xs i x below ∙ ap (λ z. take i xs ++ z ∷ []) (sym at)) ∙ find_push f (take i xs) x none off where
      find_push : {X : Type 0} (f : X → Bool) (xs : List X) (x : X) → find f xs ≡ None → f x ≡ false → find f (xs ++ x ∷ []) ≡ None
      find_push f [] x none off = ap (λ b. cond b (Some x) None) off
      find_push {X} f (y ∷ ys) x none off = go (f y) (find_push f ys x) none where
        go : (b : Bool) → (find f ys ≡ None → f x ≡ false → find f (ys ++ x ∷ []) ≡ None) → cond b (Some y) (find f ys) ≡ None → cond b (Some y) (find f (ys ++ x ∷ [])) ≡ None
        go true rest e = absurd (cc e)
        go false rest e = rest e off

-- the one after those of which none passes
pub find_at : {X : Type 0} (f : X → Bool) (xs : List X) (i : ℕ) (x : X) → i < length xs → x ≡ get_or xs i x → find f (take i xs) ≡ None → f x ≡ true → find f xs ≡ Some x
find_at f [] i x below at none on = absurd (omega (arith, below))
find_at {X} f (y ∷ ys) zero x below at none on =
    let P : X → Type 0 = λ z. f z ≡ true in
    let Q : Bool → Type 0 = λ b. cond b (Some y) (find f ys) ≡ Some x in
    let passes : f y ≡ true = subst P at on in
    subst Q (sym passes) (ap Some (sym at))
find_at {X} f (y ∷ ys) (suc i) x below at none on = go (f y) (λ (rest : find f (take i ys) ≡ None). find_at f ys i x (omega (arith, below)) at rest on) none where
  go : (b : Bool) → (find f (take i ys) ≡ None → find f ys ≡ Some x) → cond b (Some y) (find f (take i ys)) ≡ None → cond b (Some y) (find f ys) ≡ Some x
  go true further e = absurd (cc e)
  go false further e = further e
