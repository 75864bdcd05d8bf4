use Rattle.listings.proofs.SupersederFacts.{all_more}
use Rattle.listings.proofs.superseders.put_hinted.Goals as goal

pub loop-nth-preserved : goal.loop-nth-preserved
loop-nth-preserved c =
    all_more c.args.members.now c.args.ids.now c.loop-nth.nth c.index-ids-nth.result c.loop-nth.indices.items c.push.new.self.items c.in-Some.index
    c.requires c.loop-nth-test.true c.index-ids-nth.is c.loop-nth.invariant c.in-Some.ensures.some c.in_ok-push-in-Some.ensures.items
