-- Records whose lists stand in lists of all: one more record, and the records of heads in order.
use Rattle.std.proofs.Common.{◌≡◌, ℕ, Bool, true, false, cond, List, [], ◌∷◌, ◌++◌, refl, sym, ◌∙◌, ap, subst, get_or}
use Rattle.std.specs.Prelude.{find, map, option_map, reverse, Contains, Some}
use Rattle.std.specs.List.{AllByRecursion}
use Rattle.std.specs.List.Sorted.{IsStrictlySortedBy}
use Rattle.std.specs.declared.cmp.Ordering.TheVariants.{Less}
use Rattle.std.proofs.lemmas.List.{map-append, reverse-append}
use Rattle.std.proofs.lemmas.List.Elements.{All-contains, All-from_recursion, Contains-get_or, recursion_from_All}
use Rattle.catalogue.specs.declared.conditional.CondNeed.{CondNeed}
use Rattle.catalogue.specs.declared.sysmod.Sysmod.{Sysmod}
use Rattle.catalogue.specs.Conditional.{CondsAscend}
use Rattle.catalogue.specs.Content.{ids_in, is_of}
use Rattle.catalogue.specs.Ids.{Ascend, id_cmp}
use Rattle.catalogue.specs.Publication.{catalogue_of}
use Rattle.catalogue.proofs.RecordFacts.{catalogue_only}
use Rattle.flat_content.specs.declared.records.Head.{Head}
use Rattle.flat_content.specs.declared.spans.Span.{Span}
use Rattle.flat_content.specs.Records.{AreHeads, HeadsAscend, IsHead, fmids_of, is_head_of, pre_of, record_at, records_of, req_of, sup_of}
use Rattle.flat_content.specs.Spans.{AreConds, IsIds, Keeps, part_at}

-- ---- what is put after all others leaves them

keeps_ids : (old new : List (List ℕ)) (span : Span) → Keeps old new → IsIds old span → IsIds new span
keeps_ids old new span keeps is = let now = keeps span is.0 in (now.0, subst Ascend (sym now.1) is.1)

-- a list stands where the one before it ends
pub moved : (old new : List (List ℕ)) (span : Span) (start : ℕ) → Keeps old new → start ≡ span.start → IsIds old span
    → IsIds new (record { start = start; end = span.end }) × (part_at new (record { start = start; end = span.end }) ≡ part_at old span)
moved old new span start keeps at is =
    subst (λ (s : ℕ). IsIds new (record { start = s; end = span.end }) × (part_at new (record { start = s; end = span.end }) ≡ part_at old span)) (sym at)
    (keeps_ids old new span keeps is, (keeps span is.0).1)

pub keeps_on : (first second third : List (List ℕ)) → Keeps first second → Keeps second third → Keeps first third
keeps_on first second third one two = λ span within. let was = one span within in let now = two span was.0 in (now.0, now.1 ∙ was.1)

keeps_conds : (old new : List CondNeed) (span : Span) → Keeps old new → AreConds old span → AreConds new span
keeps_conds old new span keeps is = let now = keeps span is.0 in (now.0, subst CondsAscend (sym now.1) is.1)

module _ (old new : List (List ℕ)) (was now : List CondNeed) (keeps : Keeps old new) (kept : Keeps was now) where
  keeps_head : (head : Head) → IsHead old was head → IsHead new now head
  keeps_head head is = record {
    fmids = keeps_ids old new (fmids_of head) keeps is.fmids;
    pre = keeps_ids old new (pre_of head) keeps is.pre;
    req = keeps_ids old new (req_of head) keeps is.req;
    conds = keeps_conds was now head.conds kept is.conds;
    sup = keeps_ids old new (sup_of head) keeps is.sup;
  }

  keeps_record : (head : Head) → IsHead old was head → record_at new now head ≡ record_at old was head
  keeps_record head is =
      let fmids = (keeps (fmids_of head) is.fmids.0).1 in
      let pre = (keeps (pre_of head) is.pre.0).1 in
      let req = (keeps (req_of head) is.req.0).1 in
      let conds = (kept head.conds is.conds.0).1 in
      let sup = (keeps (sup_of head) is.sup.0).1 in
      cc

  pub keeps_records : (heads : List Head) → AreHeads old was heads → records_of new now heads ≡ records_of old was heads
  keeps_records [] are = refl
  keeps_records (h ∷ hs) are =
      ap (λ (x : Sysmod). x ∷ records_of new now hs) (keeps_record h are.0)
      ∙ ap (λ (xs : List Sysmod). record_at old was h ∷ xs) (keeps_records hs are.1)

  -- one more after them
  pub heads_push : (heads : List Head) (head : Head) → AreHeads old was heads → IsHead new now head → AreHeads new now (heads ++ head ∷ [])
  heads_push [] head are is = (is, tt)
  heads_push (h ∷ hs) head are is = (keeps_head h are.0, heads_push hs head are.1 is)

  pub records_push : (heads : List Head) (head : Head) (x : Sysmod) → AreHeads old was heads → record_at new now head ≡ x
      → records_of new now (heads ++ head ∷ []) ≡ records_of old was heads ++ x ∷ []
  records_push heads head x are is =
      map-append (record_at new now) heads (head ∷ [])
      ∙ ap (λ (xs : List Sysmod). xs ++ record_at new now head ∷ []) (keeps_records heads are)
      ∙ ap (λ (y : Sysmod). records_of old was heads ++ y ∷ []) is

-- ---- the records of heads

module _ (names : List (List ℕ)) (conds : List CondNeed) where
  pub found_at : (heads : List Head) (id : List ℕ) → find (is_of id) (records_of names conds heads) ≡ option_map (record_at names conds) (find (is_head_of id) heads)
  found_at [] id = refl
  found_at (h ∷ hs) id = by (found_at hs id) (is_head_of id h)
    where
      by : find (is_of id) (records_of names conds hs) ≡ option_map (record_at names conds) (find (is_head_of id) hs) → (b : Bool)
          → cond b (Some (record_at names conds h)) (find (is_of id) (records_of names conds hs)) ≡ option_map (record_at names conds) (cond b (Some h) (find (is_head_of id) hs))
      by later true = refl
      by later false = later

  -- the head that is found is one of them
  pub head_is : (heads : List Head) (id : List ℕ) (head : Head) → AreHeads names conds heads → find (is_head_of id) heads ≡ Some head → IsHead names conds head
  head_is [] id head are at = absurd (cc at)
  head_is (h ∷ hs) id head are at = by (head_is hs id head are.1) (is_head_of id h) at
    where
      by : (find (is_head_of id) hs ≡ Some head → IsHead names conds head) → (b : Bool) → cond b (Some h) (find (is_head_of id) hs) ≡ Some head → IsHead names conds head
      by later true found = let same : h ≡ head = cc found in subst (IsHead names conds) same are.0
      by later false found = later found

  reversed : (heads : List Head) → reverse (records_of names conds heads) ≡ records_of names conds (reverse heads)
  reversed [] = refl
  reversed (h ∷ hs) =
      reverse-append (record_at names conds h ∷ []) (records_of names conds hs)
      ∙ ap (λ (xs : List Sysmod). xs ++ record_at names conds h ∷ []) (reversed hs)
      ∙ sym (map-append (record_at names conds) (reverse hs) (h ∷ []))
      ∙ ap (records_of names conds) (sym (reverse-append (h ∷ []) hs))

  pub ids_are : (heads : List Head) → ids_in (records_of names conds heads) ≡ map (λ head. head.id) heads
  ids_are [] = refl
  ids_are (h ∷ hs) = ap (λ (ids : List (List ℕ)). h.id ∷ ids) (ids_are hs)

  below_ids : (k : List ℕ) (heads : List Head) → AllByRecursion (λ h. id_cmp k h.id ≡ Less) heads → AllByRecursion (λ y. id_cmp k y ≡ Less) (ids_in (records_of names conds heads))
  below_ids k [] all = tt
  below_ids k (h ∷ hs) all = (all.0, below_ids k hs all.1)

  pub ids_ascend : (heads : List Head) → HeadsAscend heads → Ascend (ids_in (records_of names conds heads))
  unfolding IsStrictlySortedBy
  ids_ascend [] up = tt
  ids_ascend (h ∷ hs) up = (below_ids h.id hs up.0, ids_ascend hs up.1)

  below_heads : (k : List ℕ) (heads : List Head) → AllByRecursion (λ y. id_cmp k y ≡ Less) (ids_in (records_of names conds heads)) → AllByRecursion (λ h. id_cmp k h.id ≡ Less) heads
  below_heads k [] all = tt
  below_heads k (h ∷ hs) all = (all.0, below_heads k hs all.1)

  pub heads_ascend : (heads : List Head) → Ascend (ids_in (records_of names conds heads)) → HeadsAscend heads
  unfolding IsStrictlySortedBy
  heads_ascend [] up = tt
  heads_ascend (h ∷ hs) up = (below_heads h.id hs up.0, heads_ascend hs up.1)

  -- heads that ascend, and are the last of each id, are those of the catalogue
  pub catalogue_put : (old new : List Head) → HeadsAscend new → ((id : List ℕ) → find (is_head_of id) new ≡ find (is_head_of id) (reverse old))
      → records_of names conds new ≡ catalogue_of (records_of names conds old)
  catalogue_put old new up last =
      catalogue_only (records_of names conds old) (records_of names conds new) (record {
        ascend = ids_ascend new up;
        finds = λ id.
            found_at new id
            ∙ ap (option_map (record_at names conds)) (last id)
            ∙ sym (found_at (reverse old) id)
            ∙ ap (find (is_of id)) (sym (reversed old));
      })

  pub heads_kept : (old new : List Head) → AreHeads names conds old → ((head : Head) → Contains new head → Contains old head) → AreHeads names conds new
  heads_kept old new are kept =
      recursion_from_All (IsHead names conds) new (λ k d lt.
      All-contains (IsHead names conds) old (get_or new k d) (All-from_recursion (IsHead names conds) old are) (kept (get_or new k d) (Contains-get_or new k d lt)))
