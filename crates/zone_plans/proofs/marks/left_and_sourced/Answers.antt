use Rattle.verdicts.proofs.IndexFacts.{marks_more}
use Rattle.zone_plans.specs.Graphs.{IsStart}
use Rattle.zone_plans.proofs.GraphFacts.{IsMarkOf, mark_by, starts_end}
use Rattle.std.proofs.Common.{arith}
use Rattle.zone_plans.proofs.marks.left_and_sourced.Goals as goal

pub loop-node-preserved : goal.loop-node-preserved
loop-node-preserved c =
    let left = c.args.left.now in
    let sources = c.args.sources.now in
    let i = c.loop-node.node in
    marks_more (λ p mark. IsMarkOf (IsStart left sources p) mark) i c.loop-node.marks.items c.push.new.self.items c.is_start.result c.loop-node.invariant
    (mark_by (IsStart left sources i) c.is_start.result c.is_start.ensures.yes c.is_start.ensures.no) c.in_ok-push.ensures.items

pub returns : goal.returns
returns c = starts_end c.args.left.now c.args.sources.now c.loop-node.node c.loop-node.marks.items (omega arith) c.loop-node.invariant
