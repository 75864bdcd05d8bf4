use Rattle.std.proofs.Common.{◌≡◌, ◌∙◌, length, ap, arith}
use Rattle.requisites.specs.Nodes.{mark_of}
use Rattle.verdicts.proofs.IndexFacts.{marks_more}
use Rattle.zone_plans.specs.Climbs.{mirror}
use Rattle.zone_plans.proofs.MirrorFacts.{marks_mirrored}
use Rattle.zone_plans.proofs.others.mirrored_marks.Goals as goal

pub loop-node-preserved : goal.loop-node-preserved
loop-node-preserved c =
    let marks = c.args.marks.now in
    let n = length marks in
    marks_more (λ p m. m ≡ mark_of marks (mirror n p)) c.loop-node.node c.loop-node.turned.items c.push.new.self.items c.is_marked.result c.loop-node.invariant
    (c.is_marked.ensures ∙ ap (mark_of marks) c.mirror.ensures)
    c.in_ok-push.ensures.items

pub returns : goal.returns
returns c = marks_mirrored (length c.args.marks.now) c.loop-node.node c.args.marks.now c.loop-node.turned.items (omega (arith, c.loop-node-test.false, c.loop-node.auto.node-end)) c.loop-node.invariant
