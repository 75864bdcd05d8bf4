use Rattle.std.proofs.Common.{ℕ}
use Rattle.std.specs.List.{Contains}
use Rattle.install_order.proofs.ties.put_alike.Given as goal

abbrev pub invariant-loop-need : goal.invariant-loop-need
invariant-loop-need l = (q : ℕ) → Contains l.own.items q → Contains l.row q
