use Rattle.std.proofs.Common.{◌≡◌, take}
use Rattle.zone_plans.specs.Choices.{of_status}
use Rattle.zone_plans.proofs.choice.with_status.Given as goal

abbrev pub invariant-loop-resolver : goal.invariant-loop-resolver
invariant-loop-resolver l = l.kept.items ≡ of_status l.status (take l.resolver-index l.resolvers)
