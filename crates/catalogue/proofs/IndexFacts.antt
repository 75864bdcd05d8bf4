-- The index from a superseded id to its superseders, one more entry at a time.
use Rattle.std.proofs.Common.{◌≡◌, ℕ, zero, suc, ◌+◌, ◌<◌, Bool, true, false, ◌||◌, cond, List, [], ◌∷◌, ◌++◌, length, take, get_or, arith, refl, sym, ◌∙◌, ap}
use Rattle.std.specs.Prelude.{filter, Option, Some, if◌then◌else◌}
use Rattle.std.specs.BTreeMap.{BTreeMap, get, is_at}
use Rattle.std.specs.Global.{Vec}
use Rattle.std.specs.List.{list_any, AllByRecursion}
use Rattle.std.specs.List.Sorted.{IsStrictlySortedBy}
use Rattle.std.specs.declared.cmp.Ordering.TheVariants.{Less}
use Rattle.std.proofs.lemmas.List.Elements.{filter-append}
use Rattle.std.proofs.lemmas.List.{append-nil, map-append}
use Rattle.std.proofs.lemmas.List.Folds.{list_any_more}
use Rattle.catalogue.specs.declared.sysmod.Sysmod.{Sysmod}
use Rattle.catalogue.specs.Content.{ids_in, sup_names}
use Rattle.catalogue.specs.Ids.{id_cmp, same_id, Ascend}
use Rattle.catalogue.specs.ListPublished.{listed}
use Rattle.catalogue.proofs.IdFacts.{one_id, same_is, same_back, apart_back}

abbrev pub Lists : Type 0
Lists = BTreeMap (List ℕ) (Vec (List ℕ))

-- what stands under one id is replaced by the same with an id after it
pub put_under : (old new : Lists) (under id : List ℕ) (ids : Vec (List ℕ)) → ids.items ≡ listed (get id_cmp old under) ++ id ∷ []
    → ((q : List ℕ) → get id_cmp new q ≡ cond (is_at (id_cmp under) q) (Some ids) (get id_cmp old q))
    → (q : List ℕ) → listed (get id_cmp new q) ≡ (if same_id under q then listed (get id_cmp old q) ++ id ∷ [] else listed (get id_cmp old q))
put_under old new under id ids items updates q =
    ap listed (updates q ∙ ap (λ b. cond b (Some ids) (get id_cmp old q)) (sym (same_is under q)))
    ∙ by (same_id under q) refl
  where
    by : (b : Bool) → same_id under q ≡ b → listed (cond (same_id under q) (Some ids) (get id_cmp old q)) ≡ (if same_id under q then listed (get id_cmp old q) ++ id ∷ [] else listed (get id_cmp old q))
    by true at =
        ap (λ b. listed (cond b (Some ids) (get id_cmp old q))) at
        ∙ items
        ∙ ap (λ k. listed (get id_cmp old k) ++ id ∷ []) (one_id under q at)
        ∙ sym (ap (λ b. cond b (listed (get id_cmp old q) ++ id ∷ []) (listed (get id_cmp old q))) at)
    by false at =
        ap (λ b. listed (cond b (Some ids) (get id_cmp old q))) at
        ∙ sym (ap (λ b. cond b (listed (get id_cmp old q) ++ id ∷ []) (listed (get id_cmp old q))) at)

-- ---- the ids of one SUP, from the first on

all_at : (P : List ℕ → Type 0) (xs : List (List ℕ)) (i : ℕ) (d : List ℕ) → i < length xs → AllByRecursion P xs → P (get_or xs i d)
all_at P [] i d below h = absurd (omega arith)
all_at P (x ∷ xs) zero d below h = h.0
all_at P (x ∷ xs) (suc i) d below h = all_at P xs i d (omega arith) h.1

-- an id that ascends doesn't come before its own index
none_before : (xs : List (List ℕ)) (i : ℕ) (d : List ℕ) → i < length xs → Ascend xs → list_any (same_id (get_or xs i d)) (take i xs) ≡ false
unfolding IsStrictlySortedBy
none_before [] i d below h = absurd (omega arith)
none_before (x ∷ xs) zero d below h = refl
none_before (x ∷ xs) (suc i) d below h =
    let less : id_cmp x (get_or xs i d) ≡ Less = all_at (λ y. id_cmp x y ≡ Less) xs i d (omega arith) h.0 in
    ap (λ b. b || list_any (same_id (get_or xs i d)) (take i xs)) (apart_back x (get_or xs i d) less)
    ∙ none_before xs i d (omega arith) h.1

-- what stands under each id, when the SUP of one record is gone through up to an index
abbrev pub upto : List (List ℕ) → List (List ℕ) → ℕ → List ℕ → List ℕ → List (List ℕ)
upto before sup i id q = before ++ (if list_any (same_id q) (take i sup) then id ∷ [] else [])

pub sup_step : (old new : Option (Vec (List ℕ))) (before sup : List (List ℕ)) (i : ℕ) (x id q : List ℕ) → i < length sup → x ≡ get_or sup i x → Ascend sup
    → listed old ≡ upto before sup i id q
    → listed new ≡ (if same_id x q then listed old ++ id ∷ [] else listed old)
    → listed new ≡ upto before sup (i + 1) id q
sup_step old new before sup i x id q below at ascends was now =
    now
    ∙ by (same_id x q) refl
    ∙ ap (λ b. before ++ (if b then id ∷ [] else [])) (sym (list_any_more (same_id q) sup i x below ∙ ap (λ y. list_any (same_id q) (take i sup) || same_id q y) (sym at)))
  where
    or_false : (b : Bool) → (b || false) ≡ b
    or_false true = refl
    or_false false = refl

    by : (b : Bool) → same_id x q ≡ b → (if same_id x q then listed old ++ id ∷ [] else listed old) ≡ before ++ (if list_any (same_id q) (take i sup) || same_id q x then id ∷ [] else [])
    by true is =
        let none : list_any (same_id q) (take i sup) ≡ false =
        ap (λ y. list_any (same_id y) (take i sup)) (sym (one_id x q is) ∙ at) ∙ none_before sup i x below ascends in
        ap (λ b. if b then listed old ++ id ∷ [] else listed old) is
        ∙ ap (λ l. l ++ id ∷ []) (was ∙ ap (λ b. before ++ (if b then id ∷ [] else [])) none ∙ append-nil before)
        ∙ sym (ap (λ b. before ++ (if b then id ∷ [] else [])) (ap (λ b. b || same_id q x) none ∙ same_back q x ∙ is))
    by false is =
        ap (λ b. if b then listed old ++ id ∷ [] else listed old) is
        ∙ was
        ∙ sym (ap (λ b. before ++ (if b then id ∷ [] else [])) (ap (λ b. list_any (same_id q) (take i sup) || b) (same_back q x ∙ is) ∙ or_false (list_any (same_id q) (take i sup))))

-- ---- the records, from the first on

pub one_more : (old new : Option (Vec (List ℕ))) (front : List Sysmod) (x : Sysmod) (q : List ℕ)
    → listed old ≡ ids_in (filter (sup_names q) front)
    → listed new ≡ listed old ++ (if sup_names q x then x.id ∷ [] else [])
    → listed new ≡ ids_in (filter (sup_names q) (front ++ x ∷ []))
one_more old new front x q was now =
    now
    ∙ ap (λ l. l ++ (if sup_names q x then x.id ∷ [] else [])) was
    ∙ by (sup_names q x)
    ∙ sym (ap ids_in (filter-append (sup_names q) front (x ∷ [])) ∙ map-append (λ s. s.id) (filter (sup_names q) front) (filter (sup_names q) (x ∷ [])))
  where
    by : (b : Bool) → ids_in (filter (sup_names q) front) ++ (if b then x.id ∷ [] else []) ≡ ids_in (filter (sup_names q) front) ++ ids_in (cond b (x ∷ []) [])
    by true = refl
    by false = refl
