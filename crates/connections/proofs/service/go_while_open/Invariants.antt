-- the events that were told so far, of a store that has not failed
use Rattle.std.proofs.Common.{map, take}
use Rattle.bureau.specs.Answering.{bureau_view}
use Rattle.connections.specs.Items.{event_of}
use Rattle.connections.specs.Rounds.{IsStill}
use Rattle.connections.specs.SideBySide.{IsOnward}
use Rattle.connections.proofs.service.go_while_open.Given as goal

abbrev pub invariant-loop-event : goal.invariant-loop-event
invariant-loop-event g l =
    let view = bureau_view g.S.Store.tables_view g.J.Judge.is_right in
    record {
      onward : IsOnward view l.fn.bureau l.bureau (map event_of (take l.event-index l.events)) l.fn.connections l.connections;
      still : IsStill view l.fn.bureau l.bureau (map event_of (take l.event-index l.events));
    }
