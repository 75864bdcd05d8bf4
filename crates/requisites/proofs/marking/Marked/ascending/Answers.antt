use Rattle.std.proofs.Common.{◌∙◌, ap, false, sym, true}
use Rattle.requisites.proofs.MarkingFacts.{below_more, below_skip, mark_read}
use Rattle.requisites.proofs.marking.Marked.ascending.Goals as goal
use Rattle.requisites.proofs.marking.Marked.ascending.Goals.{then-is_marked+in_ok-push, else-is_marked}

pub loop-node-preserved : goal.loop-node-preserved
loop-node-preserved c =
    let marks = c.args.self.now.marks.items in
    let i = c.loop-node.node in
    let indices = c.loop-node.indices.items in
    elim c.if-is_marked.branch [
      | then-is_marked+in_ok-push w ↦
          below_more marks i indices c.if-is_marked.indices.items (ap (λ v. v.items) w.indices-is ∙ w.in_ok-push.ensures.items)
          (mark_read c.deref.result.now marks i true c.deref.ensures.value (sym c.is_marked.ensures ∙ w.if-is_marked.true)) c.loop-node.invariant
      | else-is_marked w ↦
          below_skip marks i indices c.if-is_marked.indices.items (ap (λ v. v.items) w.indices-is)
          (mark_read c.deref.result.now marks i false c.deref.ensures.value (sym c.is_marked.ensures ∙ w.if-is_marked.false)) c.loop-node.invariant
    ]
