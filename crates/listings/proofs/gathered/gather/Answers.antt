use Rattle.std.proofs.Common.{◌≡◌, ◌+◌, ◌<◌, List, ℕ, length, get_or, subst, sym, rules}
use Rattle.std.specs.BTreeMap.{keys, values}
use Rattle.std.specs.List.{Contains}
use Rattle.std.proofs.lemmas.List.Elements.{Contains-append_left}
use Rattle.listings.specs.Gathered.{AreRead, named_by}
use Rattle.catalogue.proofs.SourceFacts.{told_so}
use Rattle.catalogue.proofs.TellingFacts.{tells_on}
use Rattle.listings.proofs.WalkFacts.{all_asked, asked_now, few_now, gather_ends, gather_moves, gather_reads, named_ends, named_now}
use Rattle.listings.proofs.gathered.gather.Goals as goal

pub loop-at-preserved : goal.loop-at-preserved
loop-at-preserved g c =
    let was = c.loop-at.invariant in
    let id = c.index.result.now in
    let order = c.loop-at.order.items in
    let below : c.loop-at.at < length order = search rules in
    let is : id ≡ get_or order c.loop-at.at id = search rules in
    let old = c.loop-at.found.entries in
    let new = c.add.new.found.entries in
    let v = c.in_ok-gathered.gathered in
    let order' = c.add.new.order.items in
    let N : List (List ℕ) → Type 0 = λ l. AreRead (keys c.add.new.found) l (c.loop-at.at + 1) → AreRead (keys c.add.new.found) l c.next_unread-at.result in
    let on = subst N c.deref.ensures.value c.next_unread-at.ensures.read in
    record {
      has_told = tells_on g.met.P.Published.lawful was.has_told c.in_ok-gathered.ensures.asks.keeps (λ standing. c.in_ok-gathered.ensures.standing) c.in_ok-gathered.ensures.gathered (λ content so_far told.
          gather_moves content c.args.start.now (keys c.add.new.found) order' (values c.add.new.found) (c.loop-at.at + 1) c.next_unread-at.result on
          (gather_reads old new id v c.in_ok-add.ensures.found content c.args.start.now order order' c.loop-at.at below is c.in_ok-add.ensures.order told so_far));
      standing = λ y inside. c.in_ok-gathered.ensures.standing;
      begun = (let P : List (List ℕ) → Type 0 = λ l. Contains l c.args.start.now in subst P (sym c.in_ok-add.ensures.order) (Contains-append_left order (named_by v) c.args.start.now was.begun));
      asked = on (asked_now old new id v c.in_ok-add.ensures.found order order' c.loop-at.at below is c.in_ok-add.ensures.order was.asked);
      named = named_now old new id v c.in_ok-add.ensures.found order order' c.in_ok-add.ensures.order was.named;
      few = few_now c.args.most old new id v c.in_ok-add.ensures.found (c.is_full.ensures.room c.if-is_full.false);
    }

pub returns-in_err-add-clause-asks : goal.returns-in_err-add-clause-asks
returns-in_err-add-clause-asks g c =
    let law = g.met.P.Published in
    record {
      keeps = law.lawful.on _ _ _ c.loop-at.invariant.has_told.keeps c.in_ok-gathered.ensures.asks.keeps;
      cause = search rules;
      stays_open = λ fault standing. c.in_ok-gathered.ensures.standing;
    }

pub returns-clause-gathered : goal.returns-clause-gathered
returns-clause-gathered g c =
    told_so c.loop-at.invariant.has_told.told (λ content done.
    gather_ends content c.args.start.now (keys c.loop-at.found) c.loop-at.order.items c.loop-at.at (values c.loop-at.found) (search rules) done)

pub returns-clause-named : goal.returns-clause-named
returns-clause-named g c =
    named_ends (keys c.loop-at.found) c.loop-at.order.items c.loop-at.at (values c.loop-at.found) (search rules) c.loop-at.invariant.asked c.loop-at.invariant.named

pub returns-clause-standing : goal.returns-clause-standing
returns-clause-standing g c =
    c.loop-at.invariant.standing c.args.start.now
    (all_asked (keys c.loop-at.found) c.loop-at.order.items c.loop-at.at (search rules) c.loop-at.invariant.asked c.args.start.now c.loop-at.invariant.begun)
