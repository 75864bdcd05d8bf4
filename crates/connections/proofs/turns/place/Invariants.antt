-- none so far is the caller
use Rattle.std.proofs.Common.{map, take}
use Rattle.connections.specs.Fair.{IsNoneOf, callers_in, waits_of}
use Rattle.connections.proofs.turns.place.Given as goal

abbrev pub invariant-loop-at : goal.invariant-loop-at
invariant-loop-at l = IsNoneOf l.caller (callers_in (map waits_of (take l.at l.callers.items)))
