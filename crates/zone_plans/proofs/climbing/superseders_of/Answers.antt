use Rattle.std.proofs.Common.{◌≡◌, ◌∙◌, ◌++◌, ◌+◌, ◌<◌, ℕ, List, length, get_or, ap, subst, rules}
use Rattle.std.specs.BTreeMap.{keys, values}
use Rattle.catalogue.specs.Content.{superseders}
use Rattle.catalogue.proofs.SourceFacts.{no_fault, told_both, told_so}
use Rattle.catalogue.proofs.TellingFacts.{tells_on}
use Rattle.listings.specs.Gathered.{AreRead}
use Rattle.chains.proofs.ClimbFacts.{above_now, asked_now, listed_ends, listed_now, starts_stay}
use Rattle.listings.proofs.WalkFacts.{all_asked}
use Rattle.verdicts.proofs.AskingFacts.{failed_since}
use Rattle.zone_plans.proofs.climbing.superseders_of.Goals as goal

pub loop-at-preserved : goal.loop-at-preserved
loop-at-preserved g c =
    let was = c.loop-at.invariant in
    let id = c.index.result.now in
    let order = c.loop-at.order.items in
    let below : c.loop-at.at < length order = search rules in
    let is : id ≡ get_or order c.loop-at.at id = search rules in
    let old = c.loop-at.found.entries in
    let new = c.insert.new.self.entries in
    let v = c.in_ok-above.above in
    let order' = c.extend_from_slice.new.self.items in
    let grows = c.in_ok-extend_from_slice.ensures.items ∙ ap (λ more. order ++ more) c.as_slice.ensures.value in
    let N : List (List ℕ) → Type 0 = λ l. AreRead (keys c.insert.new.self) l (c.loop-at.at + 1) → AreRead (keys c.insert.new.self) l c.next_unread-at.result in
    let asks = c.in_ok-above.ensures.asks in
    let direct = told_both c.in_ok-above.ensures.superseders c.in_ok-above.ensures.ordered in
    record {
      has_told = tells_on g.met.P.Published.lawful was.has_told asks.keeps (asks.stays_open (no_fault _)) direct (λ content so_far told. (
        above_now old new id v c.in_ok-insert.ensures.entries (superseders content) told.0 so_far.0,
        λ y inside. told.1,
      ));
      begun = starts_stay c.args.starts.now order order' v grows was.begun;
      asked = subst N c.deref.ensures.value c.next_unread-at.ensures.read (asked_now old new id v c.in_ok-insert.ensures.entries order order' c.loop-at.at below is grows was.asked);
      listed = listed_now old new id v c.in_ok-insert.ensures.entries order order' grows was.listed;
    }

pub returns-clause-listed : goal.returns-clause-listed
returns-clause-listed g c =
    listed_ends (keys c.loop-at.found) c.loop-at.order.items c.loop-at.at (values c.loop-at.found) (search rules) c.loop-at.invariant.asked c.loop-at.invariant.listed

pub returns-clause-starts : goal.returns-clause-starts
returns-clause-starts g c = λ id inside.
    all_asked (keys c.loop-at.found) c.loop-at.order.items c.loop-at.at (search rules) c.loop-at.invariant.asked id (c.loop-at.invariant.begun id inside)

pub returns-clause-above : goal.returns-clause-above
returns-clause-above g c = told_so c.loop-at.invariant.has_told.told (λ content told. told.0)

pub returns-clause-ordered : goal.returns-clause-ordered
returns-clause-ordered g c = told_so c.loop-at.invariant.has_told.told (λ content told. told.1)

pub returns-in_err-above-clause-asks : goal.returns-in_err-above-clause-asks
returns-in_err-above-clause-asks g c =
    let law = g.met.P.Published.lawful in
    record {
      keeps = law.on _ _ _ c.loop-at.invariant.has_told.keeps c.in_err-above.ensures.asks.keeps;
      cause = λ failed. failed_since (law.keeps _ _ c.loop-at.invariant.has_told.keeps).goes (c.in_err-above.ensures.asks.cause (search rules));
      stays_open = λ fault is_open. c.in_err-above.ensures.asks.stays_open (λ failed. fault (search rules)) (c.loop-at.invariant.has_told.still_open is_open);
    }

pub returns-in_err-extend_from_slice-clause-asks : goal.returns-in_err-extend_from_slice-clause-asks
returns-in_err-extend_from_slice-clause-asks g c =
    let law = g.met.P.Published.lawful in
    record {
      keeps = law.on _ _ _ c.loop-at.invariant.has_told.keeps c.in_ok-above.ensures.asks.keeps;
      cause = search rules;
      stays_open = λ fault is_open. c.in_ok-above.ensures.asks.stays_open (no_fault _) (c.loop-at.invariant.has_told.still_open is_open);
    }

pub returns-in_err-insert-clause-asks : goal.returns-in_err-insert-clause-asks
returns-in_err-insert-clause-asks g c =
    let law = g.met.P.Published.lawful in
    record {
      keeps = law.on _ _ _ c.loop-at.invariant.has_told.keeps c.in_ok-above.ensures.asks.keeps;
      cause = search rules;
      stays_open = λ fault is_open. c.in_ok-above.ensures.asks.stays_open (no_fault _) (c.loop-at.invariant.has_told.still_open is_open);
    }
