use Rattle.std.proofs.Common.{◌+◌, ◌∙◌, ◌∷◌, ◌++◌, [], sym, subst, map, take, drop, refl, inl, inr}
use Rattle.std.proofs.lemmas.List.{take_all}
use Rattle.bureau.specs.Answering.{bureau_view}
use Rattle.connections.specs.Items.{event_of}
use Rattle.connections.specs.Rounds.{IsStill}
use Rattle.connections.specs.SideBySide.{IsOnward}
use Rattle.connections.proofs.DeviceFacts.{has_failed, has_not_failed}
use Rattle.connections.proofs.SideFacts.{all_events, more_events, onward_none, onward_on}
use Rattle.connections.proofs.service.go_while_open.Goals as goal

pub loop-event-init : goal.loop-event-init
loop-event-init g c = record {
  onward = onward_none (bureau_view g.S.Store.tables_view g.J.Judge.is_right) c.args.bureau.now c.args.connections.now;
  still = inl (refl, refl);
}

pub loop-event-preserved : goal.loop-event-preserved
loop-event-preserved g c =
    let view = bureau_view g.S.Store.tables_view g.J.Judge.is_right in
    let new = c.serve_and_look.new.bureau in
    let events = c.args.events.now in
    let index = c.loop-event.event-index in
    record {
      onward = onward_on view c.args.bureau.now c.loop-event.bureau new (map event_of (take index events)) (event_of c.event-item.result ∷ [])
          (map event_of (take (index + 1) events)) c.args.connections.now c.loop-event.connections c.serve_and_look.new.connections
          (more_events event_of events index c.event-item.result c.loop-event-test.true c.event-item.is) c.loop-event.invariant.onward c.serve_and_look.ensures.onward;
      still = inr (has_not_failed (view.failures new) (sym c.if-serve_and_look.false ∙ c.serve_and_look.ensures.failed));
    }

pub returns-then-serve_and_look-clause-fails : goal.returns-then-serve_and_look-clause-fails
returns-then-serve_and_look-clause-fails g c premise =
    let view = bureau_view g.S.Store.tables_view g.J.Judge.is_right in
    let old = c.args.bureau.now in
    let between = c.loop-event.bureau in
    let new = c.serve_and_look.new.bureau in
    let before = c.args.connections.now in
    let mid = c.loop-event.connections in
    let after = c.serve_and_look.new.connections in
    let events = c.args.events.now in
    let index = c.loop-event.event-index in
    let first = map event_of (take index events) in
    let last = event_of c.event-item.result in
    record {
      first = first;
      last = last;
      rest = map event_of (drop (index + 1) events);
      are = all_events event_of events index c.event-item.result c.loop-event-test.true c.event-item.is;
      between = between;
      mid = mid;
      onward = c.loop-event.invariant.onward;
      still = c.loop-event.invariant.still;
      failed = has_failed (view.failures new) (sym c.if-serve_and_look.true ∙ c.serve_and_look.ensures.failed);
      whole = onward_on view old between new first (last ∷ []) (first ++ last ∷ []) before mid after refl c.loop-event.invariant.onward c.serve_and_look.ensures.onward;
    }

pub returns-clause-onward : goal.returns-clause-onward
returns-clause-onward g c premise =
    subst (λ l. IsOnward (bureau_view g.S.Store.tables_view g.J.Judge.is_right) c.args.bureau.now c.loop-event.bureau (map event_of l) c.args.connections.now c.loop-event.connections)
    (take_all c.loop-event.event-index c.args.events.now c.loop-event-test.false) c.loop-event.invariant.onward

pub returns-clause-still : goal.returns-clause-still
returns-clause-still g c premise =
    subst (λ l. IsStill (bureau_view g.S.Store.tables_view g.J.Judge.is_right) c.args.bureau.now c.loop-event.bureau (map event_of l))
    (take_all c.loop-event.event-index c.args.events.now c.loop-event-test.false) c.loop-event.invariant.still
