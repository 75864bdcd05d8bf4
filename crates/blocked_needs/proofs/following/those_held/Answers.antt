use Rattle.std.proofs.Common.{Option}
use Rattle.blocked_needs.specs.declared.blocked.BlockedNeed.{BlockedNeed}
use Rattle.blocked_needs.proofs.ListFacts.{filter_map_more}
use Rattle.blocked_needs.proofs.following.those_held.Goals as goal

pub loop-one-preserved : goal.loop-one-preserved
loop-one-preserved c =
    filter_map_more (λ (one : Option BlockedNeed). one) c.args.blocked.now c.loop-one.one-index c.one-item.result c.loop-one.rows.items c.push_some.new.rows.items c.loop-one-test.true c.one-item.is c.loop-one.invariant c.in_ok-push_some.ensures
