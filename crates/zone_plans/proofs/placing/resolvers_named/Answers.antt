use Rattle.std.proofs.Common.{◌∙◌, List, map, ap}
use Rattle.catalogue.specs.Ids.{put_among}
use Rattle.reports.proofs.ResolverFacts.{named_more}
use Rattle.reports.specs.Holds.{HoldLists}
use Rattle.reports.specs.declared.holds.Resolver.{Resolver}
use Rattle.zone_plans.proofs.placing.resolvers_named.Goals as goal

pub loop-hold-preserved : goal.loop-hold-preserved
loop-hold-preserved c =
    named_more (λ (hold : HoldLists). map (λ (r : Resolver). r.id) hold.resolvers) c.args.holds.now c.loop-hold.hold-index c.hold-item.result c.loop-hold.ids.keys c.put_resolvers.new.ids.keys c.loop-hold-test.true c.hold-item.is
    c.loop-hold.invariant (c.in_ok-put_resolvers.ensures ∙ ap (λ (l : List Resolver). put_among c.loop-hold.ids.keys (map (λ (r : Resolver). r.id) l)) c.resolvers.ensures)
