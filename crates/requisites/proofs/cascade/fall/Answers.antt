use Rattle.std.proofs.Common.{◌∙◌, sym}
use Rattle.requisites.proofs.TestFacts.{from_true}
use Rattle.requisites.proofs.CascadeFacts.{left_falls_inside}
use Rattle.requisites.proofs.cascade.fall.Goals as goal

pub returns-then-has_closed_need-clause-left : goal.returns-then-has_closed_need-clause-left
returns-then-has_closed_need-clause-left c =
    left_falls_inside c.args.nodes.now c.args.opens.now c.args.marks.now c.args.node
    (sym c.is_marked.ensures ∙ c.if-is_marked.true) c.requires.left c.requires.opens
    (from_true c.has_closed_need.result c.has_closed_need.ensures c.if-has_closed_need.true)
