-- Ids by their indices in a list that ascends.
use Rattle.std.proofs.Common.{◌≡◌, ◌∙◌, ℕ, zero, suc, ◌+◌, ◌<◌, ◌≤◌, Bool, true, false, List, [], ◌∷◌, ◌++◌, length, map, take, get_or, Option, Some, None, sym, ap, subst, inl, inr, arith}
use Rattle.std.specs.List.{AllByRecursion, Contains, slice_get}
use Rattle.std.specs.List.Sorted.{IsStrictlySortedBy}
use Rattle.std.specs.Ordering.{ordering_reverse}
use Rattle.std.specs.declared.cmp.Ordering.TheVariants.{Less, Greater}
use Rattle.std.proofs.lemmas.Bool.{cases_lt}
use Rattle.std.proofs.lemmas.Grind.{common_steps}
use Rattle.std.proofs.lemmas.List.{get_or_append_left, get_or_push, map-append, take_more}
use Rattle.std.proofs.lemmas.List.Elements.{Contains-append_left, Contains-push, Contains-push_cases}
use Rattle.lemmas.proofs.ListFacts.{any_at, none_inside, get_any}
use Rattle.catalogue.specs.Ids.{Ascend, id_cmp, same_id}
use Rattle.catalogue.proofs.IdFacts.{ids_total, itself}
use Rattle.verdicts.specs.Indices.{IndexOf, id_at, AreIndicesOf, IsAt, MarksAre, RowsAre}
use Rattle.std.specs.Prelude.{IfNone, IfSome, is_some}
use Rattle.supersede.specs.Reach.{has}
use Rattle.verdicts.proofs.OrderFacts.{not_above_itself, not_below_itself}

-- ---- what stands at an index

pub at_inside : (members : List (List ℕ)) (q : ℕ) → q < length members → Contains members (id_at members q)
at_inside members q within = (q, within, get_any members q (id_at members q) [] within)

pub inside_at : (members : List (List ℕ)) (id : List ℕ) → Contains members id → IndexOf members id
inside_at members id inside = record { index = inside.0; within = inside.1; is = get_any members inside.0 [] id inside.1 ∙ inside.2 }

pub indexed_inside : (members : List (List ℕ)) (id : List ℕ) (index : ℕ) → IsAt members id index → Contains members id
indexed_inside members id index at = (let P : List ℕ → Type 0 = λ x. Contains members x in subst P at.is (at_inside members index at.within))

all_at_index : (P : List ℕ → Type 0) (xs : List (List ℕ)) → AllByRecursion P xs → (k : ℕ) (d : List ℕ) → k < length xs → P (get_or xs k d)
all_at_index P [] all k d within = absurd (omega (arith, within))
all_at_index P (x ∷ xs) all zero d within = all.0
all_at_index P (x ∷ xs) all (suc k) d within = all_at_index P xs all.1 k d (omega (arith, within))

pub below_at : (xs : List (List ℕ)) (i j : ℕ) (d : List ℕ) → Ascend xs → i < j → j < length xs → id_cmp (get_or xs i d) (get_or xs j d) ≡ Less
unfolding IsStrictlySortedBy
below_at [] i j d ascend below within = absurd (omega (arith, within))
below_at (x ∷ xs) zero zero d ascend below within = absurd (omega (arith, below))
below_at (x ∷ xs) zero (suc j) d ascend below within = all_at_index (λ y. id_cmp x y ≡ Less) xs ascend.0 j d (omega (arith, within))
below_at (x ∷ xs) (suc i) zero d ascend below within = absurd (omega (arith, below))
below_at (x ∷ xs) (suc i) (suc j) d ascend below within = below_at xs i j d ascend.1 (omega (arith, below)) (omega (arith, within))

-- an id stands at one index alone
pub one_index : (xs : List (List ℕ)) (i j : ℕ) (d : List ℕ) → Ascend xs → i < length xs → j < length xs → get_or xs i d ≡ get_or xs j d → i ≡ j
one_index xs i j d ascend first second same = elim (cases_lt i j) [
  | inl below ↦ (let P : List ℕ → Type 0 = λ x. id_cmp x (get_or xs j d) ≡ Less in absurd (not_below_itself (get_or xs j d) (subst P same (below_at xs i j d ascend below second))))
  | inr from ↦ elim (cases_lt j i) [
    | inl above ↦ (let P : List ℕ → Type 0 = λ x. id_cmp (get_or xs j d) x ≡ Less in absurd (not_below_itself (get_or xs j d) (subst P same (below_at xs j i d ascend above first))))
    | inr to ↦ omega (arith, from, to)
  ]
]

-- so an id that stands at two indices stands at one
pub index_is : (ids : List (List ℕ)) (id : List ℕ) (p q : ℕ) → Ascend ids → IsAt ids id p → IsAt ids id q → p ≡ q
index_is ids id p q up first second = one_index ids p q [] up first.within second.within (first.is ∙ sym second.is)

-- the order of the indices is that of the ids
pub order_up : (xs : List (List ℕ)) (i j : ℕ) (d : List ℕ) → Ascend xs → j < length xs → i ≤ j → id_cmp (get_or xs i d) (get_or xs j d) ≡ Greater → ⊥
order_up xs i j d ascend within least above = elim (cases_lt i j) [
  | inl below ↦ (let less = below_at xs i j d ascend below within in cc)
  | inr from ↦ (let same : i ≡ j = omega (arith, from, least) in let P : ℕ → Type 0 = λ k. id_cmp (get_or xs k d) (get_or xs j d) ≡ Greater in not_above_itself (get_or xs j d) (subst P same above))
]

pub order_down : (xs : List (List ℕ)) (i j : ℕ) (d : List ℕ) → Ascend xs → i < length xs → (id_cmp (get_or xs i d) (get_or xs j d) ≡ Greater → ⊥) → i ≤ j
order_down xs i j d ascend within not_above = elim (cases_lt j i) [
  | inl above ↦ absurd (not_above (ids_total.antisymm (get_or xs i d) (get_or xs j d) ∙ ap ordering_reverse (below_at xs j i d ascend above within)))
  | inr from ↦ from
]

-- ---- a look-up

found_get : (xs : List (List ℕ)) (id : List ℕ) (k : ℕ) → slice_get xs k ≡ Some id → IsAt xs id k
found_get [] id k e = absurd (cc)
found_get (x ∷ xs) id zero e = let same : x ≡ id = (cc) in record { within = omega arith; is = same }
found_get (x ∷ xs) id (suc k) e = let later = found_get xs id k e in record { within = (let below = later.within in omega (arith, below)); is = later.is }

pub found_at : (xs : List (List ℕ)) (id : List ℕ) (found : Option ℕ) → IfSome found (λ k. slice_get xs k ≡ Some id) → IfSome found (λ k. IsAt xs id k)
found_at xs id None e = tt
found_at xs id (Some k) e = found_get xs id k e

pub not_found : (xs : List (List ℕ)) (id : List ℕ) (found : Option ℕ) → is_some found ≡ has xs id → IfNone found (Contains xs id → ⊥)
not_found xs id None e = λ inside. let on : has xs id ≡ true = any_at (same_id id) xs id inside (itself id) in cc
not_found xs id (Some k) e = tt

-- ---- indices of ids

pub indices_none : (members : List (List ℕ)) → AreIndicesOf members [] []
indices_none members = record {
  within = λ q inside. absurd (none_inside q inside);
  listed = λ q inside. absurd (none_inside q inside);
  whole = λ q within inside. absurd (none_inside (id_at members q) inside);
}

pub indices_more : (members ids : List (List ℕ)) (indices : List ℕ) (id : List ℕ) (index : ℕ) → Ascend members → AreIndicesOf members ids indices → IsAt members id index → AreIndicesOf members (ids ++ id ∷ []) (indices ++ index ∷ [])
indices_more members ids indices id index ascend are at = record {
  within = λ q inside. elim (Contains-push_cases indices index q inside) [
    | inl before ↦ are.within q before
    | inr same ↦ (let P : ℕ → Type 0 = λ k. k < length members in subst P same at.within)
  ];
  listed = λ q inside. elim (Contains-push_cases indices index q inside) [
    | inl before ↦ Contains-append_left ids (id ∷ []) (id_at members q) (are.listed q before)
    | inr same ↦ (let P : List ℕ → Type 0 = λ x. Contains (ids ++ id ∷ []) x in let Q : ℕ → Type 0 = λ k. Contains (ids ++ id ∷ []) (id_at members k) in subst Q same (subst P (sym at.is) (Contains-push ids id)))
  ];
  whole = λ q within inside. elim (Contains-push_cases ids id (id_at members q) inside) [
    | inl before ↦ Contains-append_left indices (index ∷ []) q (are.whole q within before)
    | inr same ↦ (let one : index ≡ q = one_index members index q [] ascend at.within within (at.is ∙ same) in let P : ℕ → Type 0 = λ k. Contains (indices ++ index ∷ []) k in subst P one (Contains-push indices index))
  ];
}

pub indices_skip : (members ids : List (List ℕ)) (indices : List ℕ) (id : List ℕ) → AreIndicesOf members ids indices → (Contains members id → ⊥) → AreIndicesOf members (ids ++ id ∷ []) indices
indices_skip members ids indices id are outside = record {
  within = are.within;
  listed = λ q inside. Contains-append_left ids (id ∷ []) (id_at members q) (are.listed q inside);
  whole = λ q within inside. elim (Contains-push_cases ids id (id_at members q) inside) [
    | inl before ↦ are.whole q within before
    | inr same ↦ (let P : List ℕ → Type 0 = λ x. Contains members x in absurd (outside (subst P (sym same) (at_inside members q within))))
  ];
}

-- one id more of a list
pub indices_on : (members ids : List (List ℕ)) (i : ℕ) (id : List ℕ) (indices : List ℕ) → i < length ids → id ≡ get_or ids i id → AreIndicesOf members (take i ids ++ id ∷ []) indices → AreIndicesOf members (take (i + 1) ids) indices
indices_on members ids i id indices below at are =
    let P : List (List ℕ) → Type 0 = λ l. AreIndicesOf members l indices in
    subst P (sym (take_more ids i id below ∙ ap (λ x. take i ids ++ x ∷ []) (sym at))) are

-- ---- rows and marks, one more

pub length-push : {X : Type 0} (xs : List X) (x : X) → length (xs ++ x ∷ []) ≡ length xs + 1
length-push xs x = grind (arith, common_steps)

pub rows_none : (P : ℕ → List ℕ → Type 0) (rows : List (List ℕ)) → rows ≡ [] → RowsAre P 0 rows
rows_none P rows is = record { len = ap length is; each = λ p below. absurd (omega (arith, below)) }

-- what holds of each of n, and of one more, holds of all
pub each_more : {X : Type 0} (P : ℕ → X → Type 0) (n : ℕ) (d : X) (old new : List X) (v : X) → length old ≡ n → ((p : ℕ) → p < n → P p (get_or old p d)) → P n v → new ≡ old ++ v ∷ []
    → (p : ℕ) → p < n + 1 → P p (get_or new p d)
each_more {X} P n d old new v as_many each own is p below = (let Q : List X → Type 0 = λ l. P p (get_or l p d) in subst Q (sym is) (elim (cases_lt p n) [
  | inl before ↦ (let R : X → Type 0 = λ x. P p x in subst R (sym (get_or_append_left old (v ∷ []) d p (omega (arith, before, as_many)))) (each p before))
  | inr from ↦ (let last : p ≡ n = omega (arith, below, from) in let S : ℕ → Type 0 = λ k. P k (get_or (old ++ v ∷ []) k d) in let R : X → Type 0 = λ x. P n x in
      subst S (sym last) (subst R (sym (get_or_push old v d n as_many)) own))
]))

pub rows_more : (P : ℕ → List ℕ → Type 0) (n : ℕ) (old new : List (List ℕ)) (row_of_it : List ℕ) → RowsAre P n old → P n row_of_it → new ≡ old ++ row_of_it ∷ [] → RowsAre P (n + 1) new
rows_more P n old new v are own is = record {
  len = ap length is ∙ length-push old v ∙ ap (λ (k : ℕ). k + 1) are.len;
  each = each_more P n [] old new v are.len are.each own is;
}

pub marks_none : (P : ℕ → Bool → Type 0) (marks : List Bool) → marks ≡ [] → MarksAre P 0 marks
marks_none P marks is = record { len = ap length is; each = λ p below. absurd (omega (arith, below)) }

pub marks_more : (P : ℕ → Bool → Type 0) (n : ℕ) (old new : List Bool) (mark : Bool) → MarksAre P n old → P n mark → new ≡ old ++ mark ∷ [] → MarksAre P (n + 1) new
marks_more P n old new v are own is = record {
  len = ap length is ∙ length-push old v ∙ ap (λ (k : ℕ). k + 1) are.len;
  each = each_more P n false old new v are.len are.each own is;
}

-- ---- ids at indices

-- what a list of indices has at one is one of them
pub listed_index : (indices : List ℕ) (i : ℕ) → i < length indices → Contains indices (get_or indices i 0)
listed_index indices i below = (i, below, get_any indices i (get_or indices i 0) 0 below)

pub ids_more : (members : List (List ℕ)) (indices : List ℕ) (i : ℕ) (id : List ℕ) (old new : List (List ℕ)) → i < length indices → id ≡ id_at members (get_or indices i 0)
    → old ≡ map (id_at members) (take i indices) → new ≡ old ++ id ∷ [] → new ≡ map (id_at members) (take (i + 1) indices)
ids_more members indices i id old new below at was now =
    now
    ∙ ap (λ l. l ++ id ∷ []) was
    ∙ ap (λ x. map (id_at members) (take i indices) ++ x ∷ []) at
    ∙ sym (map-append (id_at members) (take i indices) (get_or indices i 0 ∷ []))
    ∙ ap (map (id_at members)) (sym (take_more indices i (get_or indices i 0) below ∙ ap (λ x. take i indices ++ x ∷ []) (get_any indices i (get_or indices i 0) 0 below)))

-- one more of what f makes
pub made_more : {X Y : Type 0} (f : X → Y) (xs : List X) (i : ℕ) (x : X) (y : Y) (old new : List Y) → i < length xs → x ≡ get_or xs i x
    → old ≡ map f (take i xs) → new ≡ old ++ y ∷ [] → y ≡ f x → new ≡ map f (take (i + 1) xs)
made_more {X} {Y} f xs i x y old new below at was now is =
    now
    ∙ ap (λ (l : List Y). l ++ y ∷ []) was
    ∙ ap (λ (z : Y). map f (take i xs) ++ z ∷ []) is
    ∙ sym (map-append f (take i xs) (x ∷ []))
    ∙ ap (map f) (sym (take_more xs i x below ∙ ap (λ (z : X). take i xs ++ z ∷ []) (sym at)))
