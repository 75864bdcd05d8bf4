use Rattle.std.proofs.Common.{◌+◌, true, arith}
use Rattle.requisites.proofs.TestFacts.{from_true, from_false}
use Rattle.requisites.proofs.SweepFacts.{swept_none, swept_falls, swept_stays, swept_left}
use Rattle.requisites.proofs.good.sweep.Goals as goal
use Rattle.requisites.proofs.good.sweep.Goals.{then-must_fall, else-must_fall}

pub loop-node-init : goal.loop-node-init
loop-node-init c = swept_none c.args.nodes.now c.args.givers.now c.args.marks.now

pub loop-node-preserved : goal.loop-node-preserved
loop-node-preserved c =
    let nodes = c.args.nodes.now in
    let givers = c.args.givers.now in
    let i = c.loop-node.node in
    let marks = c.loop-node.marks in
    elim c.if-must_fall.branch [
      | then-must_fall w ↦
          (let unmet = from_true c.must_fall.result c.must_fall.ensures.yes w.if-must_fall.true in
          swept_left nodes givers (i + 1) c.args.marks.now _ c.if-must_fall.marks true c.if-must_fall.fell w.marks-is w.fell-is
          (swept_falls nodes givers i c.args.marks.now marks c.loop-node.fell c.loop-node.invariant (omega (arith, c.loop-node.invariant.len)) unmet.0 unmet.1))
      | else-must_fall w ↦
          swept_left nodes givers (i + 1) c.args.marks.now marks c.if-must_fall.marks c.loop-node.fell c.if-must_fall.fell w.marks-is w.fell-is
          (swept_stays nodes givers i c.args.marks.now marks c.loop-node.fell c.loop-node.invariant (from_false c.must_fall.result c.must_fall.ensures.no w.if-must_fall.false))
    ]
