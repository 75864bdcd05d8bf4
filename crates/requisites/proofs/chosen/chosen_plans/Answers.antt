use Rattle.std.proofs.Common.{◌≡◌, ◌<◌, ◌∙◌, [], List, ℕ, Bool, length, get_or, replicate, false, rules, subst, sym, arith}
use Rattle.lemmas.proofs.ResultFacts.{ok_so}
use Rattle.requisites.specs.Marking.{AreMarked}
use Rattle.requisites.proofs.MarkingFacts.{AreGoodOnes, good_ones, picking_begins, picking_ends, picking_goes_on, plans_marked}
use Rattle.requisites.proofs.chosen.chosen_plans.Goals as goal

pub loop-at-init : goal.loop-at-init
loop-at-init c =
    let nodes = c.args.nodes.now in
    let starts = c.args.starts.now in
    let row = c.deref.result.now in
    let marks = c.args.resolution.now.good.items in
    let M : List Bool → Type 0 = λ l. AreMarked row l c.mark_row.new.self.marks.items c.in_ok-chosen.chosen.order.items c.mark_row.new.self.order.items in
    let T : List ℕ → Type 0 = λ l. AreMarked row (replicate c.len.result false) c.mark_row.new.self.marks.items l c.mark_row.new.self.order.items in
    let N : ℕ → Type 0 = λ n. AreMarked row (replicate n false) c.mark_row.new.self.marks.items [] c.mark_row.new.self.order.items in
    let G : List ℕ → Type 0 = λ l. AreGoodOnes nodes starts l in
    picking_begins nodes starts row c.mark_row.new.self.marks.items c.mark_row.new.self.order.items
    (subst G (sym (c.deref.ensures.value ∙ c.in_ok-good.ensures)) (good_ones nodes marks c.args.resolution.now.givers.items c.requires starts))
    (subst N (omega (arith, c.len.ensures, nodes.candidates.ok.0)) (subst T c.in_ok-chosen.ensures.order (subst M c.in_ok-chosen.ensures.marks c.in_ok-mark_row.ensures)))

pub loop-at-preserved : goal.loop-at-preserved
loop-at-preserved c =
    let order = c.loop-at.chosen.order.items in
    let next = c.index-next.result.now in
    let below : c.loop-at.at < length order = search rules in
    let is : next ≡ get_or order c.loop-at.at next = search rules in
    let P : List ℕ → Type 0 = λ l. AreMarked l c.loop-at.chosen.marks.items c.mark_row-in-loop-at.new.self.marks.items order c.mark_row-in-loop-at.new.self.order.items in
    picking_goes_on c.args.nodes.now c.args.starts.now c.loop-at.chosen.marks.items c.mark_row-in-loop-at.new.self.marks.items order c.mark_row-in-loop-at.new.self.order.items
    c.put_picks.new.picks.items c.loop-at.at next below is c.in_ok-put_picks.ensures (subst P c.deref-in-loop-at.ensures.value c.in_ok-mark_row-2.ensures) c.loop-at.invariant

pub returns-clause-chosen : goal.returns-clause-chosen
returns-clause-chosen c =
    let nodes = c.args.nodes.now in
    let starts = c.args.starts.now in
    let marks = c.loop-at.chosen.marks.items in
    ok_so c.ascending.result c.ascending.ensures.marked
    (λ plans are. plans_marked nodes starts marks plans.items
    (picking_ends nodes starts marks c.loop-at.chosen.order.items c.loop-at.at (search rules) c.loop-at.invariant) are)
