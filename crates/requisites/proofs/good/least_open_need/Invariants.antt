use Rattle.std.proofs.Common.{take}
use Rattle.requisites.proofs.OpenFacts.{IsLeastSoFar}
use Rattle.requisites.proofs.good.least_open_need.Given as goal

abbrev pub invariant-loop-need : goal.invariant-loop-need
invariant-loop-need l = IsLeastSoFar l.nodes l.givers (take l.need-index l.need-items) l.least
