use Rattle.std.proofs.Common.{◌≡◌, [], length}
use Rattle.requisites.specs.Spread.{AreClosed}
use Rattle.requisites.proofs.rings.spread_from_last.Given as goal

abbrev pub invariant-loop-start : goal.invariant-loop-start
invariant-loop-start l = AreClosed l.reversed l.names [] × (l.work.items ≡ [])

abbrev pub decreases-loop-start : goal.decreases-loop-start
decreases-loop-start l = length l.order.items
