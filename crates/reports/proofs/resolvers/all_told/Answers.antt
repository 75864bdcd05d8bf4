use Rattle.std.proofs.Common.{◌∙◌, List, ap, map, sym}
use Rattle.holddata.specs.declared.hold.Hold.{Hold}
use Rattle.supersede.specs.Reach as Reach
use Rattle.reports.specs.Found.{FoundLists, told}
use Rattle.reports.specs.Holds.{HoldLists, resolver_by}
use Rattle.reports.specs.declared.holds.Resolver.{Resolver}
use Rattle.reports.proofs.ResolverFacts.{map_more, named_asked}
use Rattle.reports.proofs.resolvers.all_told.Goals as goal

abbrev held_as : Hold → List Resolver → HoldLists
held_as hold resolvers = record { hold = hold; resolvers = resolvers }

pub loop-one-preserved : goal.loop-one-preserved
loop-one-preserved c = λ f are asked.
    let found = c.args.found.now in
    let i = c.loop-one.one-index in
    let one = c.one-item.result in
    let resolvers = c.in_ok-resolvers.ensures f are (λ id has. named_asked (λ (one : FoundLists). one.ids) found i one c.args.asked.now id c.loop-one-test.true c.one-item.is asked (ap (λ ids. Reach.has ids id) (sym c.ids.ensures) ∙ has)) in
    map_more (told f c.args.received.now) found i one c.new.result c.loop-one.helds.items c.push.new.self.items c.loop-one-test.true c.one-item.is
    (c.loop-one.invariant f are asked)
    (c.new.ensures ∙ ap (λ h. held_as h c.in_ok-resolvers.resolvers.items) c.hold.ensures ∙ ap (held_as one.hold) (resolvers ∙ ap (map (resolver_by f c.args.received.now)) c.ids.ensures))
    c.in_ok-push.ensures.items
