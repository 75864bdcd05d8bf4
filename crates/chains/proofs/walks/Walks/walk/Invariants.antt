use Rattle.std.proofs.Common.{◌-◌, ◌^◌, length}
use Rattle.chains.specs.Climbs.{IsWalking}
use Rattle.chains.proofs.walks.Walks.walk.Given as goal

abbrev pub invariant-loop-at : goal.invariant-loop-at
invariant-loop-at l = IsWalking l.rows (length l.fn.self.seen.items) l.start l.turn l.self.seen.items l.self.order.items l.at

abbrev pub decreases-loop-at : goal.decreases-loop-at
decreases-loop-at l = 2 ^ 64 - l.at
