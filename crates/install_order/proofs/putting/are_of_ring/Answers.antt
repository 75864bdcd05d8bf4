use Rattle.std.proofs.Common.{ℕ, arith}
use Rattle.install_order.specs.Rings.{IsOfRing}
use Rattle.install_order.proofs.ReadFacts.{all_read, one_more}
use Rattle.install_order.proofs.putting.are_of_ring.Goals as goal

pub loop-node-preserved : goal.loop-node-preserved
loop-node-preserved c =
    let P : ℕ → Type 0 = λ p. IsOfRing c.args.needs.now c.args.left.now c.args.ring.now c.args.first p in
    one_more P c.args.ring.now c.loop-node.node-index c.loop-node-test.true c.loop-node.invariant c.if-not-is_of_ring.ensures

pub returns : goal.returns
returns c =
    let P : ℕ → Type 0 = λ p. IsOfRing c.args.needs.now c.args.left.now c.args.ring.now c.args.first p in
    all_read P c.args.ring.now c.loop-node.node-index (omega arith) c.loop-node.invariant
