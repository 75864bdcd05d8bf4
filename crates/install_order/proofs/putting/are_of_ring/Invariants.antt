use Rattle.std.proofs.Common.{ℕ, take}
use Rattle.std.specs.List.{Contains}
use Rattle.install_order.specs.Rings.{IsOfRing}
use Rattle.install_order.proofs.putting.are_of_ring.Given as goal

abbrev pub invariant-loop-node : goal.invariant-loop-node
invariant-loop-node l = (p : ℕ) → Contains (take l.node-index l.ring) p → IsOfRing l.needs l.left l.ring l.first p
