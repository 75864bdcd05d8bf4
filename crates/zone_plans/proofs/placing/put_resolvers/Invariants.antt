use Rattle.std.proofs.Common.{◌≡◌, map, take}
use Rattle.catalogue.specs.Ids.{put_among}
use Rattle.reports.specs.declared.holds.Resolver.{Resolver}
use Rattle.zone_plans.proofs.placing.put_resolvers.Given as goal

abbrev pub invariant-loop-resolver : goal.invariant-loop-resolver
invariant-loop-resolver l = l.ids.keys ≡ put_among l.fn.ids.keys (map (λ (r : Resolver). r.id) (take l.resolver-index l.resolvers))
