use Rattle.std.proofs.Common.{◌+◌, ◌*◌, length}
use Rattle.requisites.specs.Spread.{sourceless}
use Rattle.requisites.proofs.SpreadFacts.{IsSpreading}
use Rattle.requisites.proofs.sources.spread.Given as goal

abbrev pub invariant-loop-node : goal.invariant-loop-node
invariant-loop-node l = IsSpreading l.lists l.start l.fn.sources l.sources l.work.items

abbrev pub decreases-loop-node : goal.decreases-loop-node
decreases-loop-node l = 2 * sourceless l.sources + length l.work.items
