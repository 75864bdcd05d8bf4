use Rattle.install_order.specs.Rings.{Goes}
use Rattle.install_order.proofs.putting.put_found.Given as goal

abbrev pub invariant-loop-index : goal.invariant-loop-index
invariant-loop-index l = Goes l.needs l.fn.left l.left l.fn.rings l.rings
