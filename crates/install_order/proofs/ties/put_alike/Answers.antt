use Rattle.std.proofs.Common.{◌∙◌, ap}
use Rattle.install_order.proofs.ReadFacts.{drawn_more, drawn_same}
use Rattle.install_order.proofs.ties.put_alike.Goals as goal
use Rattle.install_order.proofs.ties.put_alike.Goals.{then-is_named_as+in_ok-push, else-is_named_as}

pub loop-need-preserved : goal.loop-need-preserved
loop-need-preserved c =
    let row = c.args.row.now in
    let own = c.loop-need.own.items in
    elim c.if-is_named_as.branch [
      | then-is_named_as+in_ok-push w ↦
          drawn_more row own c.if-is_named_as.own.items c.loop-need.need-index c.loop-need-test.true (ap (λ v. v.items) w.own-is ∙ w.in_ok-push.ensures.items) c.loop-need.invariant
      | else-is_named_as w ↦ drawn_same row own c.if-is_named_as.own.items (ap (λ v. v.items) w.own-is) c.loop-need.invariant
    ]
