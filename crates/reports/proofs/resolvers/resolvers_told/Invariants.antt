use Rattle.std.proofs.Common.{◌≡◌, ℕ, List, map, take}
use Rattle.verdicts.specs.declared.verdict.Status.{Status}
use Rattle.reports.specs.Holds.{resolver_by}
use Rattle.reports.specs.Resolvers.{AreAmong}
use Rattle.reports.proofs.resolvers.resolvers_told.Given as goal

abbrev pub invariant-loop-id : goal.invariant-loop-id
invariant-loop-id l = (f : List ℕ → Status) → l.statuses ≡ map f l.asked → AreAmong l.ids l.asked → l.list.items ≡ map (resolver_by f l.received) (take l.id-index l.ids)
