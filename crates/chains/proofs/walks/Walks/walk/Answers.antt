use Rattle.std.proofs.Common.{◌≡◌, ◌∷◌, ◌<◌, [], List, ℕ, length, get_or, refl, rules, subst}
use Rattle.chains.specs.Climbs.{AreTaken}
use Rattle.chains.proofs.WalkingFacts.{walk_begins, walk_ends, walk_goes_on}
use Rattle.chains.proofs.walks.Walks.walk.Goals as goal

pub loop-at-init : goal.loop-at-init
loop-at-init c =
    let old = c.args.self.now.seen.items in
    let T : List ℕ → Type 0 = λ l. AreTaken c.args.turn (c.args.start ∷ []) old c.take.new.self.seen.items l c.take.new.self.order.items in
    walk_begins c.args.rows.now (length old) c.args.start c.args.turn old c.take.new.self.seen.items c.take.new.self.order.items refl c.requires.start c.requires.fresh
    (subst T c.clear.ensures.items c.in_ok-take.ensures)

pub loop-at-preserved : goal.loop-at-preserved
loop-at-preserved c =
    let order = c.loop-at.self.order.items in
    let next = c.index-next.result.now in
    let below : c.loop-at.at < length order = search rules in
    let is : next ≡ get_or order c.loop-at.at next = search rules in
    walk_goes_on c.args.rows.now (length c.args.self.now.seen.items) c.args.start c.args.turn c.loop-at.self.seen.items c.take_row.new.self.seen.items order c.take_row.new.self.order.items
    c.row.result.now c.loop-at.at next below is c.row.ensures c.in_ok-take_row.ensures c.loop-at.invariant

pub returns-clause-each : goal.returns-clause-each
returns-clause-each c =
    walk_ends c.args.rows.now (length c.args.self.now.seen.items) c.args.start c.args.turn c.loop-at.self.seen.items c.loop-at.self.order.items c.loop-at.at (search rules) c.loop-at.invariant
