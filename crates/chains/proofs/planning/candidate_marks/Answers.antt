use Rattle.std.specs.List.{list_any}
use Rattle.zone_lists.specs.Installed.{is_installed}
use Rattle.verdicts.proofs.IndexFacts.{made_more}
use Rattle.chains.proofs.planning.candidate_marks.Goals as goal

pub loop-node-preserved : goal.loop-node-preserved
loop-node-preserved c =
    made_more (λ node. list_any (λ fmid. is_installed c.args.zone.now fmid) node.fmids) c.args.nodes.now c.loop-node.node-index c.node-item.result c.is_any_installed.result
    c.loop-node.marks.items _ c.loop-node-test.true c.node-item.is c.loop-node.invariant c.in_ok-push.ensures.items c.is_any_installed.ensures
