-- No part of what is promised: private contracts cite it. Lists that stand one after the other in one list.
use Rattle.std.specs.Prelude.{◌≡◌, ◌≤◌, ℕ, List, length}
use Rattle.std.specs.List.{slice_range}
use Rattle.catalogue.specs.declared.conditional.CondNeed.{CondNeed}
use Rattle.catalogue.specs.Conditional.{CondsAscend}
use Rattle.catalogue.specs.Ids.{Ascend}
use Rattle.flat_content.specs.declared.spans.Span.{Span}

-- the entries in a span
abbrev pub part_at : {X : Type 0} → List X → Span → List X
part_at all span = slice_range all span.start span.end

-- the span ends after it starts, and no later than the list does
abbrev pub IsWithin : {X : Type 0} → List X → Span → Type 0
IsWithin all span = (span.start ≤ span.end) × (span.end ≤ length all)

-- the ids in the span ascend
abbrev pub IsIds : List (List ℕ) → Span → Type 0
IsIds names span = IsWithin names span × Ascend (part_at names span)

-- the requisites under conditions in the span ascend
abbrev pub AreConds : List CondNeed → Span → Type 0
AreConds conds span = IsWithin conds span × CondsAscend (part_at conds span)

-- the entries in a span are the same still
abbrev pub Keeps : {X : Type 0} → List X → List X → Type 0
Keeps old new = (span : Span) → IsWithin old span → IsWithin new span × (part_at new span ≡ part_at old span)
