use Rattle.std.proofs.Common.{take}
use Rattle.chains.specs.Climbs.{AreTaken}
use Rattle.chains.proofs.walks.Walks.take_row.Given as goal

abbrev pub invariant-loop-index : goal.invariant-loop-index
invariant-loop-index l = AreTaken l.turn (take l.index-index l.row) l.fn.self.seen.items l.self.seen.items l.fn.self.order.items l.self.order.items
