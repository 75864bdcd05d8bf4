use Rattle.verdicts.proofs.IndexFacts.{marks_more}
use Rattle.requisites.specs.Sources.{HasSource}
use Rattle.zone_plans.proofs.GraphFacts.{IsMarkOf, mark_of_test, sourced_end}
use Rattle.std.proofs.Common.{arith}
use Rattle.zone_plans.proofs.marks.sourced.Goals as goal

pub loop-node-preserved : goal.loop-node-preserved
loop-node-preserved c =
    let sources = c.args.sources.now in
    let i = c.loop-node.node in
    marks_more (λ p mark. IsMarkOf (HasSource sources p) mark) i c.loop-node.marks.items c.push.new.self.items c.has_source.result c.loop-node.invariant
    (mark_of_test (HasSource sources i) c.has_source.result c.has_source.ensures) c.in_ok-push.ensures.items

pub returns : goal.returns
returns c = sourced_end c.args.sources.now c.loop-node.node c.loop-node.marks.items (omega arith) c.loop-node.invariant
