use Rattle.std.proofs.Common.{◌≡◌, map}
use Rattle.std.specs.Prelude.{not}
use Rattle.std.specs.List.{range_with_len}
use Rattle.install_order.specs.Left.{is_outdone}
use Rattle.install_order.proofs.leaving.left_marks.Given as goal

abbrev pub invariant-loop-node : goal.invariant-loop-node
invariant-loop-node l = l.left.items ≡ map (λ p. not (is_outdone l.givers p)) (range_with_len 0 l.node)
