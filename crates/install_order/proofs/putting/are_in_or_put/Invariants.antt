use Rattle.std.proofs.Common.{ℕ, take}
use Rattle.std.specs.List.{Contains}
use Rattle.requisites.specs.Nodes.{IsMarked}
use Rattle.install_order.proofs.putting.are_in_or_put.Given as goal

abbrev pub invariant-loop-need : goal.invariant-loop-need
invariant-loop-need l = (q : ℕ) → Contains (take l.need-index l.row) q → IsMarked l.left q → Contains l.ring q
