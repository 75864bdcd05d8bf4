use Rattle.std.proofs.Common.{take}
use Rattle.requisites.proofs.PickFacts.{ArePickedFrom}
use Rattle.requisites.proofs.chosen.put_picks.Given as goal

abbrev pub invariant-loop-need : goal.invariant-loop-need
invariant-loop-need l = ArePickedFrom l.nodes (take l.need-index l.need-items) l.picks.items
