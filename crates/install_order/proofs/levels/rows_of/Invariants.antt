use Rattle.std.proofs.Common.{◌≡◌, take}
use Rattle.install_order.specs.Levels.{lists_in}
use Rattle.install_order.proofs.levels.rows_of.Given as goal

abbrev pub invariant-loop-own : goal.invariant-loop-own
invariant-loop-own l = l.rows ≡ lists_in (take l.own-index l.nodes)
