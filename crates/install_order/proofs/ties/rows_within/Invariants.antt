use Rattle.std.proofs.Common.{◌≡◌, length}
use Rattle.install_order.specs.Rings.{AreWithin}
use Rattle.install_order.proofs.ties.rows_within.Given as goal

abbrev pub invariant-loop-node : goal.invariant-loop-node
invariant-loop-node l = (length l.within ≡ l.node) × AreWithin l.needs l.within
