use Rattle.reports.specs.declared.holds.Resolver.{Resolver}
use Rattle.zone_plans.proofs.ChoiceFacts.{put_ids_more}
use Rattle.zone_plans.proofs.placing.put_resolvers.Goals as goal

pub loop-resolver-preserved : goal.loop-resolver-preserved
loop-resolver-preserved c =
    put_ids_more (λ (r : Resolver). r.id) c.args.ids.now.keys c.args.resolvers.now c.loop-resolver.resolver-index c.resolver-item.result c.loop-resolver.ids.keys c.insert.new.self.keys c.loop-resolver-test.true c.resolver-item.is
    c.loop-resolver.invariant c.in_ok-insert.ensures.keys
