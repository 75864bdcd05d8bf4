use Rattle.std.proofs.Common.{◌≡◌, length}
use Rattle.install_order.proofs.ties.name_all.Given as goal

abbrev pub invariant-loop-index : goal.invariant-loop-index
invariant-loop-index l = length l.firsts ≡ length l.initial.firsts
