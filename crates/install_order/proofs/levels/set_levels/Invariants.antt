use Rattle.std.proofs.Common.{take}
use Rattle.install_order.specs.Levels.{AreLevelled}
use Rattle.install_order.proofs.levels.set_levels.Given as goal

abbrev pub invariant-loop-node : goal.invariant-loop-node
invariant-loop-node l = AreLevelled (take l.node-index l.nodes) l.level l.initial.levels l.levels
