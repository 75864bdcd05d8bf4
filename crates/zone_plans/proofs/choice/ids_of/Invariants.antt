use Rattle.std.proofs.Common.{◌≡◌, map, take}
use Rattle.reports.specs.declared.holds.Resolver.{Resolver}
use Rattle.zone_plans.proofs.choice.ids_of.Given as goal

abbrev pub invariant-loop-resolver : goal.invariant-loop-resolver
invariant-loop-resolver l = l.ids.items ≡ map (λ (resolver : Resolver). resolver.id) (take l.resolver-index l.resolvers)
