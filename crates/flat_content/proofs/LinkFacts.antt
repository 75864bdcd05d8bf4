-- Links to superseded ids, one record after the other, and those to one id in a sorted list.
use Rattle.std.proofs.Common.{◌≡◌, ◌≤◌, ◌<◌, ◌+◌, ◌-◌, ℕ, ltb, Bool, true, false, ◌||◌, cond, List, [], ◌∷◌, ◌++◌, length, take, drop, get_or, arith, refl, sym, ◌∙◌, ap, subst}
use Rattle.std.specs.Prelude.{filter, map, not, ◌&&◌, if◌then◌else◌}
use Rattle.std.specs.List.{list_any, slice_range, AllByRecursion}
use Rattle.std.specs.List.Sorted.{IsPartitionPoint, IsPartitionedBy, IsStableByKey, IsStrictlySortedBy, ties}
use Rattle.std.specs.Ordering.{is_eq, is_le, is_lt, ordering_index, ordering_reverse}
use Rattle.std.specs.declared.cmp.Ordering.{Ordering}
use Rattle.std.specs.declared.cmp.Ordering.TheVariants.{Less, Equal, Greater}
use Rattle.std.proofs.lemmas.List.{append-nil, append_assoc, drop_all, drop_more, get_or-drop, get_or-map, get_or-take, length-drop, length-map, length-take, map-append, take-append-drop}
use Rattle.std.proofs.lemmas.List.Elements.{All-from_recursion, filter-append, filter_agree, recursion_from_All}
use Rattle.std.proofs.lemmas.List.Folds.{drop_split}
use Rattle.std.proofs.lemmas.List.Sorted.{searchable_from_sorted}
use borrow.Author.Tests.{ltb-false, ltb-true}
use Rattle.catalogue.specs.declared.conditional.CondNeed.{CondNeed}
use Rattle.catalogue.specs.declared.sysmod.Sysmod.{Sysmod}
use Rattle.catalogue.specs.Content.{ids_in, sup_names}
use Rattle.catalogue.specs.Ids.{Ascend, id_cmp, same_id}
use Rattle.catalogue.proofs.IdFacts.{apart_back, ids_total, one_id, same_back, same_is}
use Rattle.flat_content.specs.declared.links.Link.{Link}
use Rattle.flat_content.specs.declared.records.Head.{Head}
use Rattle.flat_content.specs.Links.{IsSortedList, is_to, linked, links_to}
use Rattle.flat_content.specs.Records.{AreHeads, IsHead, record_at, records_of, sup_of}
use Rattle.flat_content.specs.Spans.{part_at}

pub linked-append : (id : List ℕ) (xs ys : List Link) → linked id (xs ++ ys) ≡ linked id xs ++ linked id ys
linked-append id xs ys = ap (map (λ (l : Link). l.superseder)) (filter-append (is_to id) xs ys) ∙ map-append (λ (l : Link). l.superseder) (filter (is_to id) xs) (filter (is_to id) ys)

-- ---- one more record

-- ids that are all after one don't name it
none_to : (id sup_id : List ℕ) (sup : List (List ℕ)) → AllByRecursion (λ y. id_cmp id y ≡ Less) sup → linked id (links_to sup sup_id) ≡ []
none_to id sup_id [] h = refl
none_to id sup_id (y ∷ ys) h =
    ap (λ b. map (λ (l : Link). l.superseder) (cond b (record { superseded = y; superseder = sup_id } ∷ filter (is_to id) (links_to ys sup_id)) (filter (is_to id) (links_to ys sup_id)))) (same_back id y ∙ apart_back id y h.0)
    ∙ none_to id sup_id ys h.1

of_one : (id x : List ℕ) (sup : List (List ℕ)) → Ascend sup → linked id (links_to sup x) ≡ (if list_any (same_id id) sup then x ∷ [] else [])
unfolding IsStrictlySortedBy
of_one id x [] h = refl
of_one id x (y ∷ ys) h = by (of_one id x ys h.1) (same_id id y) refl
  where
    by : linked id (links_to ys x) ≡ (if list_any (same_id id) ys then x ∷ [] else []) → (b : Bool) → same_id id y ≡ b → linked id (links_to (y ∷ ys) x) ≡ (if (same_id id y || list_any (same_id id) ys) then x ∷ [] else [])
    by later true is =
        ap (λ b. map (λ (l : Link). l.superseder) (cond b (record { superseded = y; superseder = x } ∷ filter (is_to id) (links_to ys x)) (filter (is_to id) (links_to ys x)))) is
        ∙ ap (λ (ids : List (List ℕ)). x ∷ ids) (none_to id x ys (subst (λ (k : List ℕ). AllByRecursion (λ z. id_cmp k z ≡ Less) ys) (sym (one_id id y is)) h.0))
        ∙ sym (ap (λ b. if (b || list_any (same_id id) ys) then x ∷ [] else []) is)
    by later false is =
        ap (λ b. map (λ (l : Link). l.superseder) (cond b (record { superseded = y; superseder = x } ∷ filter (is_to id) (links_to ys x)) (filter (is_to id) (links_to ys x)))) is
        ∙ later
        ∙ sym (ap (λ b. if (b || list_any (same_id id) ys) then x ∷ [] else []) is)

-- the links so far, with those of the records to come, where the next record has its links put after them
pub of_next : (links : List Link) (x : Sysmod) (xs : List Sysmod) (q : List ℕ) → Ascend x.sup
    → linked q (links ++ links_to x.sup x.id) ++ ids_in (filter (sup_names q) xs) ≡ linked q links ++ ids_in (filter (sup_names q) (x ∷ xs))
of_next links x xs q ascend =
    ap (λ (ids : List (List ℕ)). ids ++ ids_in (filter (sup_names q) xs))
    (linked-append q links (links_to x.sup x.id) ∙ ap (λ (ids : List (List ℕ)). linked q links ++ ids) (of_one q x.id x.sup ascend))
    ∙ append_assoc (linked q links) (if sup_names q x then x.id ∷ [] else []) (ids_in (filter (sup_names q) xs))
    ∙ ap (λ (ids : List (List ℕ)). linked q links ++ ids) (by (sup_names q x))
  where
    by : (b : Bool) → (if b then x.id ∷ [] else []) ++ ids_in (filter (sup_names q) xs) ≡ ids_in (cond b (x ∷ filter (sup_names q) xs) (filter (sup_names q) xs))
    by true = refl
    by false = refl

-- ---- the record at a place

module _ (names : List (List ℕ)) (conds : List CondNeed) (heads : List Head) (records : List Sysmod) (is : records_of names conds heads ≡ records) where
  as_many : length records ≡ length heads
  as_many = ap length (sym is) ∙ length-map heads (record_at names conds)

  pub next_record : (i : ℕ) (head : Head) → i < length heads → head ≡ get_or heads i head → drop i records ≡ record_at names conds head ∷ drop (i + 1) records
  next_record i head lt at =
      let within : i < length records = omega (arith, lt, as_many) in
      drop_more records i (record_at names conds head) within
      ∙ ap (λ (x : Sysmod). x ∷ drop (i + 1) records)
      (ap (λ (xs : List Sysmod). get_or xs i (record_at names conds head)) (sym is)
      ∙ get_or-map (record_at names conds) heads i head (record_at names conds head) lt
      ∙ ap (record_at names conds) (sym at))

  pub none_left : (i : ℕ) → length heads ≤ i → drop i records ≡ []
  none_left i le = drop_all i records (omega (arith, le, as_many))

  pub sup_ascends : (i : ℕ) (head : Head) → AreHeads names conds heads → i < length heads → head ≡ get_or heads i head → Ascend (part_at names (sup_of head))
  sup_ascends i head are lt at =
      (subst (IsHead names conds) (sym at) (All-from_recursion (IsHead names conds) heads are i head lt)).sup.1

-- ---- a stable sort keeps the links to one id in their order

pub neither : (a b : List ℕ) → (not (is_lt (id_cmp a b)) && not (is_lt (id_cmp b a))) ≡ same_id a b
neither a b = ap (λ o. not (is_lt (id_cmp a b)) && not (is_lt o)) (ids_total.antisymm b a) ∙ by (id_cmp a b) ∙ sym (same_is a b)
  where
    by : (o : Ordering) → (not (is_lt o) && not (is_lt (ordering_reverse o))) ≡ is_eq o
    by Less = refl
    by Equal = refl
    by Greater = refl

pub sorted_linked : (old new : List Link) → IsStableByKey (λ link. link.superseded) id_cmp old new → (id : List ℕ) → linked id new ≡ linked id old
sorted_linked old new stable id =
    let one : Link = record { superseded = id; superseder = id } in
    let tie : (l : Link) → ties (λ (x y : Link). is_lt (id_cmp x.superseded y.superseded)) one l ≡ is_to id l = λ l. neither id l.superseded in
    ap (map (λ (l : Link). l.superseder))
    (sym (filter_agree (ties (λ (x y : Link). is_lt (id_cmp x.superseded y.superseded)) one) (is_to id) tie new)
    ∙ stable one
    ∙ filter_agree (ties (λ (x y : Link). is_lt (id_cmp x.superseded y.superseded)) one) (is_to id) tie old)

-- ---- where the links to an id begin and end in a sorted list

first_rank : (o : Ordering) → is_lt o ≡ true → ordering_index o ≤ 0
first_rank Less h = omega arith
first_rank Equal h = absurd (cc h)
first_rank Greater h = absurd (cc h)

from_first_rank : (o : Ordering) → ordering_index o ≤ 0 → is_lt o ≡ true
from_first_rank Less h = refl
from_first_rank Equal h = absurd (omega arith)
from_first_rank Greater h = absurd (omega arith)

second_rank : (o : Ordering) → is_le o ≡ true → ordering_index o ≤ 1
second_rank Less h = omega arith
second_rank Equal h = omega arith
second_rank Greater h = absurd (cc h)

from_second_rank : (o : Ordering) → ordering_index o ≤ 1 → is_le o ≡ true
from_second_rank Less h = refl
from_second_rank Equal h = refl
from_second_rank Greater h = absurd (omega arith)

pub before_parted : (links : List Link) (id : List ℕ) → IsSortedList links → IsPartitionedBy (λ l. is_lt (id_cmp l.superseded id)) links
before_parted links id sorted i j d le lt is =
    let rises = searchable_from_sorted ids_total (λ (l : Link). l.superseded) links id sorted i j d le lt in
    let high = first_rank (id_cmp (get_or links j d).superseded id) is in
    from_first_rank (id_cmp (get_or links i d).superseded id) (omega (arith, rises, high))

pub up_to_parted : (links : List Link) (id : List ℕ) → IsSortedList links → IsPartitionedBy (λ l. is_le (id_cmp l.superseded id)) links
up_to_parted links id sorted i j d le lt is =
    let rises = searchable_from_sorted ids_total (λ (l : Link). l.superseded) links id sorted i j d le lt in
    let high = second_rank (id_cmp (get_or links j d).superseded id) is in
    from_second_rank (id_cmp (get_or links i d).superseded id) (omega (arith, rises, high))

-- ---- the links to an id

to_is : (id : List ℕ) (l : Link) → is_to id l ≡ is_eq (id_cmp l.superseded id)
to_is id l = same_back id l.superseded ∙ same_is l.superseded id

lt_not_eq : (o : Ordering) → is_lt o ≡ true → is_eq o ≡ false
lt_not_eq Less h = refl
lt_not_eq Equal h = absurd (cc h)
lt_not_eq Greater h = refl

gt_not_eq : (o : Ordering) → is_le o ≡ false → is_eq o ≡ false
gt_not_eq Less h = refl
gt_not_eq Equal h = absurd (cc h)
gt_not_eq Greater h = refl

between_eq : (o : Ordering) → is_lt o ≡ false → is_le o ≡ true → is_eq o ≡ true
between_eq Less h k = absurd (cc h)
between_eq Equal h k = refl
between_eq Greater h k = absurd (cc k)

none_linked : (id : List ℕ) (links : List Link) → AllByRecursion (λ l. is_to id l ≡ false) links → linked id links ≡ []
none_linked id [] h = refl
none_linked id (l ∷ ls) h = ap (λ b. map (λ (l : Link). l.superseder) (cond b (l ∷ filter (is_to id) ls) (filter (is_to id) ls))) h.0 ∙ none_linked id ls h.1

all_linked : (id : List ℕ) (links : List Link) → AllByRecursion (λ l. is_to id l ≡ true) links → linked id links ≡ map (λ l. l.superseder) links
all_linked id [] h = refl
all_linked id (l ∷ ls) h =
    ap (λ b. map (λ (l : Link). l.superseder) (cond b (l ∷ filter (is_to id) ls) (filter (is_to id) ls))) h.0
    ∙ ap (λ (ids : List (List ℕ)). l.superseder ∷ ids) (all_linked id ls h.1)

module _ (links : List Link) (id : List ℕ) (start end : ℕ)
    (start_within : start ≤ length links) (end_within : end ≤ length links)
    (low : IsPartitionPoint (λ l. is_lt (id_cmp l.superseded id) ≡ true) (λ l. is_lt (id_cmp l.superseded id) ≡ false) links start)
    (high : IsPartitionPoint (λ l. is_le (id_cmp l.superseded id) ≡ true) (λ l. is_le (id_cmp l.superseded id) ≡ false) links end) where
  lt_is_le : (o : Ordering) → is_lt o ≡ true → is_le o ≡ false → ⊥
  lt_is_le Less h k = cc k
  lt_is_le Equal h k = cc h
  lt_is_le Greater h k = cc h

  -- the one is not after the other
  pub in_turn : (d : Link) → start ≤ end
  in_turn d = by (ltb end start) refl
    where
      by : (b : Bool) → ltb end start ≡ b → start ≤ end
      by false is = omega (arith, ltb-false end start is)
      by true is =
          let below : end < start = ltb-true end start is in
          absurd (lt_is_le (id_cmp (get_or links end d).superseded id) (low.0 end d (omega arith) below) (high.1 end d (omega arith) (omega (arith, below, start_within))))

  before : AllByRecursion (λ l. is_to id l ≡ false) (take start links)
  before = recursion_from_All (λ l. is_to id l ≡ false) (take start links) (λ k d lt.
      let below : k < start = omega (arith, lt, length-take start links) in
      subst (λ l. is_to id l ≡ false) (sym (get_or-take start links k d below)) (to_is id (get_or links k d) ∙ lt_not_eq _ (low.0 k d (omega arith) below)))

  after : AllByRecursion (λ l. is_to id l ≡ false) (drop end links)
  after = recursion_from_All (λ l. is_to id l ≡ false) (drop end links) (λ k d lt.
      let within : end + k < length links = omega (arith, lt, length-drop end links) in
      subst (λ l. is_to id l ≡ false) (sym (get_or-drop end links k d)) (to_is id (get_or links (end + k) d) ∙ gt_not_eq _ (high.1 (end + k) d (omega arith) within)))

  between : AllByRecursion (λ l. is_to id l ≡ true) (slice_range links start end)
  between = recursion_from_All (λ l. is_to id l ≡ true) (slice_range links start end) (λ k d lt.
      let size = length-take (end - start) (drop start links) in
      let left = length-drop start links in
      let below : k < end - start = omega (arith, lt, size) in
      let ends : start + k < end = omega (arith, below) in
      subst (λ l. is_to id l ≡ true) (sym (get_or-take (end - start) (drop start links) k d below ∙ get_or-drop start links k d))
      (to_is id (get_or links (start + k) d) ∙ between_eq _ (low.1 (start + k) d (omega arith) (omega (arith, ends, end_within))) (high.0 (start + k) d (omega arith) ends)))

  pub around : start ≤ end → map (λ l. l.superseder) (slice_range links start end) ≡ linked id links
  around turn =
      sym (all_linked id (slice_range links start end) between)
      ∙ sym (append-nil (linked id (slice_range links start end)))
      ∙ ap (λ (ids : List (List ℕ)). linked id (slice_range links start end) ++ ids) (sym (none_linked id (drop end links) after))
      ∙ sym (linked-append id (slice_range links start end) (drop end links))
      ∙ ap (linked id) (sym (drop_split links start end turn))
      ∙ ap (λ (ids : List (List ℕ)). ids ++ linked id (drop start links)) (sym (none_linked id (take start links) before))
      ∙ sym (linked-append id (take start links) (drop start links))
      ∙ ap (linked id) (take-append-drop start links)
