use Rattle.std.proofs.Common.{take}
use Rattle.requisites.specs.Spread.{SourcesTaken}
use Rattle.requisites.proofs.sources.take_row.Given as goal

abbrev pub invariant-loop-node : goal.invariant-loop-node
invariant-loop-node l = SourcesTaken (take l.node-index l.row) l.source l.initial.sources l.sources l.initial.work.items l.work.items
