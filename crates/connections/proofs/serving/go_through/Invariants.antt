-- the events that were told so far
use Rattle.std.proofs.Common.{map, take}
use Rattle.connections.specs.Items.{event_of}
use Rattle.connections.specs.SideBySide.{IsOnward}
use Rattle.connections.proofs.serving.go_through.Given as goal

abbrev pub invariant-loop-event : goal.invariant-loop-event
invariant-loop-event g l = IsOnward g.D.Desk.tables_view l.fn.desk l.desk (map event_of (take l.event-index l.events)) l.fn.connections l.connections
