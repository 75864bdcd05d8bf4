use Rattle.std.proofs.Common.{◌≤◌, take}
use Rattle.install_order.specs.Levels.{IsLevelOf}
use Rattle.install_order.proofs.levels.ring_level.Given as goal

abbrev pub invariant-loop-node : goal.invariant-loop-node
invariant-loop-node l = IsLevelOf l.needs l.levels (take l.node-index l.ring) l.level × (l.level ≤ l.most)
