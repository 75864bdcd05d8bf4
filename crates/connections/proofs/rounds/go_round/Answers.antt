use Rattle.std.proofs.Common.{◌≡◌, ◌<◌, ◌+◌, inl, inr, map, refl, subst, sym}
use Rattle.bureau.specs.Answering.{bureau_view}
use Rattle.connections.specs.Items.{comers, event_of}
use Rattle.connections.specs.Rounds.{Fails, HasServedBut, IsStill}
use Rattle.connections.specs.SideBySide.{IsOnward}
use Rattle.connections.proofs.RoundFacts.{round_failed, round_many, round_served, round_served_but}
use Rattle.connections.proofs.rounds.go_round.Goals as goal

pub returns-then-go_while_open-clause-ended : goal.returns-then-go_while_open-clause-ended
returns-then-go_while_open-clause-ended g c =
    let view = bureau_view g.S.Store.tables_view g.J.Judge.is_right in
    let old = c.args.bureau.now in
    let new = c.go_while_open.new.bureau in
    let before = c.args.connections.now in
    let after = c.go_while_open.new.connections in
    round_failed view old new (g.R.Rounds.log c.args.rounds.now) (g.R.Rounds.log c.round-round.new.self) c.args.left (map event_of c.round-round.new.told.items) before after
    c.round-round.ensures.log (g.R.Rounds.log c.show_last.new.self)
    (subst (λ l. Fails view old new (map event_of l) before after) c.as_slice.ensures.value (c.go_while_open.ensures.fails c.if-go_while_open.true)) c.show_last.ensures

pub returns-in-Err-clause-ended : goal.returns-in-Err-clause-ended
returns-in-Err-clause-ended g c =
    let view = bureau_view g.S.Store.tables_view g.J.Judge.is_right in
    let old = c.args.bureau.now in
    let new = c.go_while_open.new.bureau in
    let before = c.args.connections.now in
    let after = c.go_while_open.new.connections in (
      round_served view old new (g.R.Rounds.log c.args.rounds.now) (g.R.Rounds.log c.round-round.new.self) c.args.left (map event_of c.round-round.new.told.items) before after
          c.round-round.ensures.log
          (subst (λ l. IsOnward view old new (map event_of l) before after) c.as_slice.ensures.value (c.go_while_open.ensures.onward c.if-go_while_open.false))
          (subst (λ l. IsStill view old new (map event_of l)) c.as_slice.ensures.value (c.go_while_open.ensures.still c.if-go_while_open.false)),
      inl c.in-Err.ensures.over,
    )

pub returns-in_default-clause-ended : goal.returns-in_default-clause-ended
returns-in_default-clause-ended g c =
    let view = bureau_view g.S.Store.tables_view g.J.Judge.is_right in
    let old = c.args.bureau.now in
    let new = c.go_while_open.new.bureau in
    let before = c.args.connections.now in
    let after = c.go_while_open.new.connections in
    let events = map event_of c.round-round.new.told.items in (
      round_served view old new (g.R.Rounds.log c.args.rounds.now) (g.R.Rounds.log c.round-round.new.self) c.args.left events before after
          c.round-round.ensures.log
          (subst (λ l. IsOnward view old new (map event_of l) before after) c.as_slice.ensures.value (c.go_while_open.ensures.onward c.if-go_while_open.false))
          (subst (λ l. IsStill view old new (map event_of l)) c.as_slice.ensures.value (c.go_while_open.ensures.still c.if-go_while_open.false)),
      inr (
        refl,
        round_many view old new (g.R.Rounds.log c.args.rounds.now) (g.R.Rounds.log c.round-round.new.self) c.args.left events before after c.round-round.ensures.log
            (subst (λ l. c.args.left < comers (map event_of l)) c.as_slice-2.ensures.value c.in_default.ensures.none),
      ),
    )

pub returns-clause-served : goal.returns-clause-served
returns-clause-served g c =
    let view = bureau_view g.S.Store.tables_view g.J.Judge.is_right in
    let old = c.args.bureau.now in
    let new = c.go_while_open.new.bureau in
    let before = c.args.connections.now in
    let after = c.go_while_open.new.connections in
    let shared = c.note_rooms.new.connections in
    let log = g.R.Rounds.log c.args.rounds.now in
    subst (λ l. HasServedBut view old new log l before shared c.in-Some.rest c.args.left 1) (sym c.note_rooms.ensures.none)
    (round_served_but view old new log (g.R.Rounds.log c.round-round.new.self) c.args.left (map event_of c.round-round.new.told.items) before after
    c.round-round.ensures.log
    (subst (λ l. IsOnward view old new (map event_of l) before after) c.as_slice.ensures.value (c.go_while_open.ensures.onward c.if-go_while_open.false))
    (subst (λ l. IsStill view old new (map event_of l)) c.as_slice.ensures.value (c.go_while_open.ensures.still c.if-go_while_open.false))
    shared c.note_rooms.ensures.slots c.note_rooms.ensures.within c.in-Some.rest
    (subst (λ l. c.in-Some.rest + comers (map event_of l) ≡ c.args.left) c.as_slice-2.ensures.value c.in-Some.ensures.some))
