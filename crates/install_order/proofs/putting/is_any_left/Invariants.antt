use Rattle.std.proofs.Common.{ℕ, ◌<◌}
use Rattle.requisites.specs.Nodes.{IsMarked}
use Rattle.install_order.proofs.putting.is_any_left.Given as goal

abbrev pub invariant-loop-index : goal.invariant-loop-index
invariant-loop-index l = (q : ℕ) → q < l.index → IsMarked l.left q → ⊥
