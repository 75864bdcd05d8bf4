-- No part of what is promised: private contracts cite it. Records whose lists are parts of lists of
-- all.
use Rattle.std.specs.Prelude.{ℕ, Bool, List, map}
use Rattle.std.specs.List.{AllByRecursion}
use Rattle.std.specs.List.Sorted.{IsStrictlySortedBy}
use Rattle.catalogue.specs.declared.conditional.CondNeed.{CondNeed}
use Rattle.catalogue.specs.declared.sysmod.Sysmod.{Sysmod}
use Rattle.catalogue.specs.Ids.{id_cmp, same_id}
use Rattle.flat_content.specs.declared.records.Head.{Head}
use Rattle.flat_content.specs.declared.spans.Span.{Span}
use Rattle.flat_content.specs.Spans.{AreConds, IsIds, part_at}

-- the spans of a record's lists: each begins at the end of the one before it
abbrev pub fmids_of : Head → Span
fmids_of head = record { start = head.start; end = head.fmids }

abbrev pub pre_of : Head → Span
pre_of head = record { start = head.fmids; end = head.pre }

abbrev pub req_of : Head → Span
req_of head = record { start = head.pre; end = head.req }

abbrev pub sup_of : Head → Span
sup_of head = record { start = head.req; end = head.sup }

-- the record of which a head is kept
abbrev pub record_at : List (List ℕ) → List CondNeed → Head → Sysmod
record_at names conds head = record {
  id = head.id;
  kind = head.kind;
  fmids = part_at names (fmids_of head);
  pre = part_at names (pre_of head);
  req = part_at names (req_of head);
  conds = part_at conds head.conds;
  sup = part_at names (sup_of head);
}

-- the records in the order of their heads
abbrev pub records_of : List (List ℕ) → List CondNeed → List Head → List Sysmod
records_of names conds heads = map (record_at names conds) heads

-- each list of a record is a part of the list of all
pub record IsHead (names : List (List ℕ)) (all : List CondNeed) (head : Head) : Type 0 where
  pub fmids : IsIds names (fmids_of head)
  pub pre : IsIds names (pre_of head)
  pub req : IsIds names (req_of head)
  pub conds : AreConds all head.conds
  pub sup : IsIds names (sup_of head)

abbrev pub AreHeads : List (List ℕ) → List CondNeed → List Head → Type 0
AreHeads names conds heads = AllByRecursion (IsHead names conds) heads

-- whether a head is that of an id
abbrev pub is_head_of : List ℕ → Head → Bool
is_head_of id head = same_id head.id id

-- heads ascend by id, each id once
abbrev pub HeadsAscend : List Head → Type 0
HeadsAscend heads = IsStrictlySortedBy (λ a b. id_cmp a.id b.id) heads
