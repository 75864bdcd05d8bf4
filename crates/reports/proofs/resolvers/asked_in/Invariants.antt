use Rattle.std.proofs.Common.{◌≡◌, take}
use Rattle.catalogue.specs.Ids.{in_order}
use Rattle.reports.specs.Found.{all_named}
use Rattle.reports.proofs.resolvers.asked_in.Given as goal

abbrev pub invariant-loop-hold : goal.invariant-loop-hold
invariant-loop-hold l = l.ids.keys ≡ in_order (all_named l.by (take l.hold-index l.holds))
