use Rattle.reports.specs.Holds.{resolver_by}
use Rattle.reports.proofs.ResolverFacts.{among_at, map_more}
use Rattle.reports.proofs.resolvers.resolvers_told.Goals as goal

pub loop-id-preserved : goal.loop-id-preserved
loop-id-preserved c = λ f are among.
    let ids = c.args.ids.now in
    let i = c.loop-id.id-index in
    let id = c.id-item.result in
    map_more (resolver_by f c.args.received.now) ids i id c.resolver_told.result c.loop-id.list.items c.push.new.self.items c.loop-id-test.true c.id-item.is
    (c.loop-id.invariant f are among)
    (c.resolver_told.ensures f are (among_at ids c.args.asked.now i id c.loop-id-test.true c.id-item.is among))
    c.in_ok-push.ensures.items
