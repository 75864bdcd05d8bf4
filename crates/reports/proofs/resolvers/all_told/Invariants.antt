use Rattle.std.proofs.Common.{◌≡◌, ℕ, List, map, take}
use Rattle.std.specs.List.{flat_map}
use Rattle.catalogue.specs.Ids.{in_order}
use Rattle.verdicts.specs.declared.verdict.Status.{Status}
use Rattle.reports.specs.Found.{FoundLists, told}
use Rattle.reports.proofs.resolvers.all_told.Given as goal

abbrev pub invariant-loop-one : goal.invariant-loop-one
invariant-loop-one l =
    (f : List ℕ → Status) → l.statuses ≡ map f l.asked → l.asked ≡ in_order (flat_map (λ (one : FoundLists). one.ids) l.found)
    → l.helds.items ≡ map (told f l.received) (take l.one-index l.found)
