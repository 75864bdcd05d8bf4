use Rattle.install_order.proofs.RowFacts.{put_is}
use Rattle.install_order.proofs.levels.put_at.Goals as goal

pub returns-in_ok-push-clause-put : goal.returns-in_ok-push-clause-put
returns-in_ok-push-clause-put c =
    put_is c.args.nodes.now c.args.level c.args.node c.index-nodes-level.result c.push.new.self c.if-level-nodes.true c.in_ok-push.ensures.items
