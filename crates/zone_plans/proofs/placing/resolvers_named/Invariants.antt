use Rattle.std.proofs.Common.{◌≡◌, take}
use Rattle.zone_plans.specs.Plans.{resolvers_named}
use Rattle.zone_plans.proofs.placing.resolvers_named.Given as goal

abbrev pub invariant-loop-hold : goal.invariant-loop-hold
invariant-loop-hold l = l.ids.keys ≡ resolvers_named (take l.hold-index l.holds)
