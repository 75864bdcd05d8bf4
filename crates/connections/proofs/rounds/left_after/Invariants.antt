-- how many of these came so far
use Rattle.std.proofs.Common.{◌≡◌, ◌+◌, map, take}
use Rattle.connections.specs.Items.{comers, event_of}
use Rattle.connections.proofs.rounds.left_after.Given as goal

abbrev pub invariant-loop-event : goal.invariant-loop-event
invariant-loop-event l = l.rest + comers (map event_of (take l.event-index l.events)) ≡ l.left
