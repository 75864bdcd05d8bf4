-- the events so far were told
use Rattle.std.proofs.Common.{◌≡◌, ◌++◌, map, take}
use Rattle.connections.specs.Items.{event_of}
use Rattle.program_tests.proofs.tests.script.tell.Given as goal

abbrev pub invariant-loop-event : goal.invariant-loop-event
invariant-loop-event l = map event_of l.told.items ≡ map event_of l.fn.told.items ++ map event_of (take l.event-index l.events)
