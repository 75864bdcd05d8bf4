use Rattle.install_order.proofs.PutFacts.{goes_joined, goes_nowhere}
use Rattle.install_order.proofs.putting.put_found.Goals as goal

pub loop-index-init : goal.loop-index-init
loop-index-init c = goes_nowhere c.args.needs.now c.args.left.now c.args.rings.now

pub loop-index-preserved : goal.loop-index-preserved
loop-index-preserved c =
    goes_joined c.args.needs.now c.args.left.now c.loop-index.left c.put_if_ring.new.left c.args.rings.now c.loop-index.rings c.put_if_ring.new.rings c.loop-index.invariant c.in_ok-put_if_ring.ensures
