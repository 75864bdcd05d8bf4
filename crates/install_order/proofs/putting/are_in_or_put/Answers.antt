use Rattle.std.proofs.Common.{ℕ, true, ◌≡◌, get_or, arith}
use Rattle.std.specs.List.{Contains}
use Rattle.requisites.specs.Nodes.{IsMarked, mark_of}
use Rattle.requisites.proofs.TestFacts.{from_true}
use Rattle.install_order.proofs.ReadFacts.{all_read, one_more}
use Rattle.install_order.proofs.putting.are_in_or_put.Goals as goal
use Rattle.install_order.proofs.putting.are_in_or_put.Goals.{else-is_marked-via-then-is_marked+else-not-is_in, else-is_marked-via-else-is_marked}

pub loop-need-preserved : goal.loop-need-preserved
loop-need-preserved c =
    let P : ℕ → Type 0 = λ q. IsMarked c.args.left.now q → Contains c.args.ring.now q in
    let need = get_or c.args.row.now c.loop-need.need-index 0 in
    one_more P c.args.row.now c.loop-need.need-index c.loop-need-test.true c.loop-need.invariant
    (elim c.else-is_marked.branch [
      | else-is_marked-via-then-is_marked+else-not-is_in w ↦ λ marked. from_true w.is_in.result w.is_in.ensures w.if-not-is_in.false
      | else-is_marked-via-else-is_marked w ↦ λ marked. absurd (let on : mark_of c.args.left.now need ≡ true = marked.is in let off = c.is_marked.ensures in let not_on = w.if-is_marked.false in cc)
    ])

pub returns : goal.returns
returns c =
    let P : ℕ → Type 0 = λ q. IsMarked c.args.left.now q → Contains c.args.ring.now q in
    all_read P c.args.row.now c.loop-need.need-index (omega arith) c.loop-need.invariant
