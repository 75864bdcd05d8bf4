use Rattle.std.proofs.Common.{rules, ◌≡◌, ◌+◌, ◌<◌, arith, drop, map, take}
use Rattle.connections.specs.Items.{comers, comers_in, event_of}
use Rattle.connections.proofs.RoundFacts.{comers_at}
use Rattle.connections.proofs.rounds.left_after.Goals as goal

pub returns-in-None-clause-none : goal.returns-in-None-clause-none
returns-in-None-clause-none c =
    let events = c.args.events.now in
    let i = c.loop-event.event-index in
    let item = c.event-item.result in
    let all : comers (map event_of events) ≡ comers (map event_of (take i events)) + (comers_in (event_of item) + comers (map event_of (drop (i + 1) events))) =
    comers_at event_of events i item c.loop-event-test.true c.event-item.is in
    let low : c.loop-event.rest < comers_in (event_of item) = search rules in
    let so_far = c.loop-event.invariant in
    omega (arith, all, low, so_far)
