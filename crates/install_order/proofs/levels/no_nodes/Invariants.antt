use Rattle.std.proofs.Common.{◌≡◌, ℕ, [], length}
use Rattle.requisites.specs.Nodes.{row}
use Rattle.install_order.specs.Levels.{lists_in}
use Rattle.install_order.proofs.levels.no_nodes.Given as goal

abbrev pub invariant-loop-level : goal.invariant-loop-level
invariant-loop-level l = ((level : ℕ) → row (lists_in l.nodes.items) level ≡ []) × (length l.nodes.items ≡ l._level)
