use Rattle.std.proofs.Common.{◌+◌, ◌*◌, ◌^◌, length}
use Rattle.requisites.specs.Good.{marked_count}
use Rattle.install_order.proofs.search.walk_from.Given as goal

abbrev pub decreases-loop-turn : goal.decreases-loop-turn
decreases-loop-turn l = marked_count l.walk.unseen.items * 2 ^ 64 + length l.walk.work.items
