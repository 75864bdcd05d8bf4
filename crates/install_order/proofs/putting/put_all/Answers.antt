use Rattle.install_order.proofs.PutFacts.{goes_joined, goes_nowhere}
use Rattle.install_order.proofs.putting.put_all.Goals as goal

pub rings-init : goal.rings-init
rings-init c = goes_nowhere c.args.needs.now c.args.left.now c.args.rings.now

pub rings-preserved : goal.rings-preserved
rings-preserved c =
    goes_joined c.args.needs.now c.args.left.now c.rings.left c.put_next.new.left c.args.rings.now c.rings.rings c.put_next.new.rings c.rings.invariant c.in_ok-put_next.ensures.goes
