use Rattle.requisites.specs.Sources.{HasSource}
use Rattle.listings.proofs.SeenFacts.{there_more}
use Rattle.listings.proofs.zone_nodes.listed_or_given.Goals as goal

pub loop-index-preserved : goal.loop-index-preserved
loop-index-preserved c =
    there_more c.args.zone.now c.args.members.now (HasSource c.args.sources.now) c.loop-index.index c.index-members-index.result c.loop-index.marks.items _ c.is_there.result
    c.loop-index-test.true c.index-members-index.is c.loop-index.invariant c.is_there.ensures c.in_ok-push.ensures.items
