use Rattle.std.proofs.Common.{◌+◌, ◌*◌, ◌^◌, length}
use Rattle.requisites.specs.Good.{marked_count}
use Rattle.requisites.proofs.rings.walk_from.Given as goal

abbrev pub decreases-loop-step : goal.decreases-loop-step
decreases-loop-step l = marked_count l.walk.unseen.items * 2 ^ 64 + length l.walk.work.items
