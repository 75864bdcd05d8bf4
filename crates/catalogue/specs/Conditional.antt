-- Requisites under a condition (IBM z/OS SMP/E Reference, `++IF`): a function, and the SYSMOD that is required if it
-- is installed.
use Rattle.std.specs.Prelude.{ℕ, List, map}
use Rattle.std.specs.BTreeSet.{insert_key}
use Rattle.std.specs.List.{fold}
use Rattle.std.specs.List.Sorted.{IsStrictlySortedBy}
use Rattle.std.specs.Ordering.{ordering_then}
use Rattle.std.specs.declared.cmp.Ordering.{Ordering}
use Rattle.catalogue.specs.declared.conditional.CondNeed.{CondNeed}
use Rattle.catalogue.specs.Ids.{id_cmp}

-- their order: by function, then by the SYSMOD that is required
abbrev pub cond_cmp : CondNeed → CondNeed → Ordering
cond_cmp a b = ordering_then (id_cmp a.fmid b.fmid) (id_cmp a.need b.need)

-- they ascend, each once
abbrev pub CondsAscend : List CondNeed → Type 0
CondsAscend conds = IsStrictlySortedBy cond_cmp conds

-- more of them put among some in order, each in its place unless it is there
abbrev pub put_conds : List CondNeed → List CondNeed → List CondNeed
put_conds conds more = fold (insert_key cond_cmp) conds more

-- each of some SYSMODs, required if a function is installed
abbrev pub required_under : List ℕ → List (List ℕ) → List CondNeed
required_under fmid needs = map (λ need. record { fmid = fmid; need = need }) needs
