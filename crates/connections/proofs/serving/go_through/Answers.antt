use Rattle.std.proofs.Common.{◌+◌, ◌∷◌, [], subst, map, take}
use Rattle.std.proofs.lemmas.List.{take_all}
use Rattle.connections.specs.Items.{event_of}
use Rattle.connections.specs.SideBySide.{IsOnward}
use Rattle.connections.proofs.SideFacts.{more_events, onward_none, onward_on}
use Rattle.connections.proofs.serving.go_through.Goals as goal

pub loop-event-init : goal.loop-event-init
loop-event-init g c = onward_none g.D.Desk.tables_view c.args.desk.now c.args.connections.now

pub loop-event-preserved : goal.loop-event-preserved
loop-event-preserved g c =
    onward_on g.D.Desk.tables_view c.args.desk.now c.loop-event.desk c.serve_event.new.desk (map event_of (take c.loop-event.event-index c.args.events.now)) (event_of c.event-item.result ∷ [])
    (map event_of (take (c.loop-event.event-index + 1) c.args.events.now)) c.args.connections.now c.loop-event.connections c.serve_event.new.connections
    (more_events event_of c.args.events.now c.loop-event.event-index c.event-item.result c.loop-event-test.true c.event-item.is)
    c.loop-event.invariant c.serve_event.ensures.onward

pub returns : goal.returns
returns g c = record {
  onward = subst (λ l. IsOnward g.D.Desk.tables_view c.args.desk.now c.loop-event.desk (map event_of l) c.args.connections.now c.loop-event.connections)
      (take_all c.loop-event.event-index c.args.events.now c.loop-event-test.false) c.loop-event.invariant;
}
