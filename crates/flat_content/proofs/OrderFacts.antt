-- Heads that are sorted, of which the first of each id is kept, and which are searched by halves.
use Rattle.std.proofs.Common.{◌≡◌, ◌<◌, ◌+◌, ℕ, suc, zero, ltb, Bool, true, false, cond, List, [], ◌∷◌, length, get_or, arith, refl, sym, ◌∙◌, ap, subst}
use Rattle.std.specs.Prelude.{filter, find, Option, None, Some}
use Rattle.std.specs.List.{AllByRecursion, HoldsAt, dedup, dedup_from}
use Rattle.std.specs.List.Sorted.{IsNonDecreasingBy, IsPartitionPoint, IsSortedBy, IsSortedByKey, IsStableByKey, IsStrictlySortedBy, ties}
use Rattle.std.specs.Ordering.{is_eq, is_lt, ordering_index, ordering_reverse}
use Rattle.std.specs.declared.cmp.Ordering.TheVariants.{Less, Equal, Greater}
use Rattle.std.proofs.lemmas.Cmp.{on_total}
use Rattle.std.proofs.lemmas.List.Elements.{All-from_recursion, filter_agree, recursion_from_All}
use Rattle.std.proofs.lemmas.List.Kept.{IsStrictlySortedBy-dedup}
use Rattle.std.proofs.lemmas.List.Sorted.{searchable_from_sorted}
use Rattle.std.proofs.lemmas.Map.Keys.{Less-from_sorted}
use borrow.Author.Tests.{ltb-false, ltb-true}
use Rattle.catalogue.specs.Ids.{id_cmp, same_id}
use Rattle.catalogue.specs.declared.sysmod.SysmodKind.TheVariants.{Func}
use Rattle.catalogue.proofs.IdFacts.{apart, exact_ids, ids_total, one_id, same_back, same_is}
use Rattle.flat_content.specs.declared.records.Head.{Head}
use Rattle.flat_content.specs.declared.spans.Span.{Span}
use Rattle.flat_content.specs.Records.{HeadsAscend, is_head_of}
use Rattle.flat_content.proofs.LinkFacts.{neither}

-- ---- a stable sort keeps the first head of an id

abbrev first : List Head → Option Head
first [] = None
first (h ∷ hs) = Some h

find_first : (test : Head → Bool) (heads : List Head) → find test heads ≡ first (filter test heads)
find_first test [] = refl
find_first test (h ∷ hs) = by (find_first test hs) (test h)
  where
    by : find test hs ≡ first (filter test hs) → (b : Bool) → cond b (Some h) (find test hs) ≡ first (cond b (h ∷ filter test hs) (filter test hs))
    by later true = refl
    by later false = later

pub sorted_first : (old new : List Head) → IsStableByKey (λ head. head.id) id_cmp old new → (id : List ℕ) → find (is_head_of id) new ≡ find (is_head_of id) old
sorted_first old new stable id =
    let none : Span = record { start = 0; end = 0 } in
    let one : Head = record { id = id; kind = Func; start = 0; fmids = 0; pre = 0; req = 0; sup = 0; conds = none } in
    let tie : (h : Head) → ties (λ (x y : Head). is_lt (id_cmp x.id y.id)) one h ≡ is_head_of id h = λ h. neither id h.id ∙ same_back id h.id in
    find_first (is_head_of id) new
    ∙ ap first
    (sym (filter_agree (ties (λ (x y : Head). is_lt (id_cmp x.id y.id)) one) (is_head_of id) tie new)
    ∙ stable one
    ∙ filter_agree (ties (λ (x y : Head). is_lt (id_cmp x.id y.id)) one) (is_head_of id) tie old)
    ∙ sym (find_first (is_head_of id) old)

-- ---- of the heads of one id that follow one another the first is kept

abbrev pub same_head : Head → Head → Bool
same_head a b = same_id a.id b.id

over : (a b : Bool) (k x : Head) (rest : Option Head) → b ≡ a → cond a (Some k) rest ≡ cond a (Some k) (cond b (Some x) rest)
over true b k x rest e = refl
over false true k x rest e = absurd (cc e)
over false false k x rest e = refl

kept_from : (id : List ℕ) (k : Head) (heads : List Head) → find (is_head_of id) (dedup_from same_head k heads) ≡ cond (is_head_of id k) (Some k) (find (is_head_of id) heads)
kept_from id k [] = refl
kept_from id k (x ∷ xs) = by (kept_from id k xs) (kept_from id x xs) (same_head x k) refl
  where
    by : find (is_head_of id) (dedup_from same_head k xs) ≡ cond (is_head_of id k) (Some k) (find (is_head_of id) xs)
        → find (is_head_of id) (dedup_from same_head x xs) ≡ cond (is_head_of id x) (Some x) (find (is_head_of id) xs)
        → (b : Bool) → same_head x k ≡ b
        → find (is_head_of id) (cond b (dedup_from same_head k xs) (k ∷ dedup_from same_head x xs)) ≡ cond (is_head_of id k) (Some k) (cond (is_head_of id x) (Some x) (find (is_head_of id) xs))
    by gone stays true is = gone ∙ over (is_head_of id k) (is_head_of id x) k x (find (is_head_of id) xs) (ap (λ (i : List ℕ). same_id i id) (one_id x.id k.id is))
    by gone stays false is = ap (cond (is_head_of id k) (Some k)) stays

pub kept_first : (heads : List Head) (id : List ℕ) → find (is_head_of id) (dedup same_head heads) ≡ find (is_head_of id) heads
kept_first [] id = refl
kept_first (h ∷ hs) id = kept_from id h hs

pub kept_ascend : (heads : List Head) → IsSortedByKey (λ head. head.id) id_cmp heads → HeadsAscend (dedup same_head heads)
kept_ascend heads sorted =
    IsStrictlySortedBy-dedup {R = λ (a b : Head). id_cmp a.id b.id} (on_total (λ (head : Head). head.id) ids_total) {E = same_head} (λ a b. same_is a.id b.id) heads sorted

-- ---- the head of an id among heads that ascend

in_turn : (heads : List Head) → HeadsAscend heads → IsSortedBy (λ (a b : Head). is_lt (id_cmp a.id b.id)) heads
in_turn heads up k d low high =
    let less : id_cmp (get_or heads k d).id (get_or heads (k + 1) d).id ≡ Less = Less-from_sorted (λ (a b : Head). id_cmp a.id b.id) heads k (k + 1) d up (omega arith) high in
    ap is_lt (ids_total.antisymm (get_or heads (k + 1) d).id (get_or heads k d).id ∙ ap ordering_reverse less)

pub rises : (heads : List Head) (id : List ℕ) → HeadsAscend heads → IsNonDecreasingBy (λ (h : Head). ordering_index (id_cmp h.id id)) heads
rises heads id up = searchable_from_sorted ids_total (λ (h : Head). h.id) heads id (in_turn heads up)

pub found_there : (heads : List Head) (id : List ℕ) (at : ℕ) (d : Head) → HeadsAscend heads → at < length heads → HoldsAt (λ h. id_cmp h.id id ≡ Equal) heads at
    → find (is_head_of id) heads ≡ Some (get_or heads at d)
unfolding IsStrictlySortedBy
found_there [] id at d up lt is = absurd (omega (arith, lt))
found_there (h ∷ hs) id zero d up lt is = ap (λ b. cond b (Some h) (find (is_head_of id) hs)) (same_is h.id id ∙ ap is_eq (is d))
found_there (h ∷ hs) id (suc k) d up lt is =
    let within : k < length hs = omega (arith, lt) in
    let below : id_cmp h.id (get_or hs k d).id ≡ Less = All-from_recursion (λ x. id_cmp h.id x.id ≡ Less) hs up.0 k d within in
    let apart_from : same_id h.id id ≡ false = apart h.id id (subst (λ (i : List ℕ). id_cmp h.id i ≡ Less) (exact_ids (get_or hs k d).id id (is d)) below) in
    ap (λ b. cond b (Some h) (find (is_head_of id) hs)) apart_from ∙ found_there hs id k d up.1 within is

none_found : (id : List ℕ) (heads : List Head) → AllByRecursion (λ h. is_head_of id h ≡ false) heads → find (is_head_of id) heads ≡ None
none_found id [] all = refl
none_found id (h ∷ hs) all = ap (λ b. cond b (Some h) (find (is_head_of id) hs)) all.0 ∙ none_found id hs all.1

pub none_there : (heads : List Head) (id : List ℕ) (at : ℕ) → IsPartitionPoint (λ (h : Head). id_cmp h.id id ≡ Less) (λ (h : Head). id_cmp h.id id ≡ Greater) heads at
    → find (is_head_of id) heads ≡ None
none_there heads id at parts = none_found id heads (recursion_from_All (λ h. is_head_of id h ≡ false) heads (λ k d lt. by k d lt (ltb k at) refl))
  where
    by : (k : ℕ) (d : Head) → k < length heads → (b : Bool) → ltb k at ≡ b → is_head_of id (get_or heads k d) ≡ false
    by k d lt true is = same_is (get_or heads k d).id id ∙ ap is_eq (parts.0 k d (omega arith) (ltb-true k at is))
    by k d lt false is = same_is (get_or heads k d).id id ∙ ap is_eq (parts.1 k d (omega (arith, ltb-false k at is)) lt)
