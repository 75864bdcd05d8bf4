use Rattle.std.proofs.Common.{◌≡◌, filter, take}
use Rattle.reports.specs.declared.holds.Resolver.{Resolver}
use Rattle.zone_plans.proofs.choice.those_received.Given as goal

abbrev pub invariant-loop-resolver : goal.invariant-loop-resolver
invariant-loop-resolver l = l.kept.items ≡ filter (λ (resolver : Resolver). resolver.received) (take l.resolver-index l.resolvers)
