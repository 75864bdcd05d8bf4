use Rattle.requisites.specs.Good.{marked_count}
use Rattle.install_order.specs.Rings.{Goes}
use Rattle.install_order.proofs.putting.put_all.Given as goal

abbrev pub invariant-rings : goal.invariant-rings
invariant-rings l = Goes l.needs l.fn.left l.left l.fn.rings l.rings

abbrev pub decreases-rings : goal.decreases-rings
decreases-rings l = marked_count l.left
