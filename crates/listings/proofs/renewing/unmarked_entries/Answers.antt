use Rattle.std.proofs.Common.{◌≡◌, ◌∙◌, ◌<◌, true, false, ap, arith, drop, get_or, length, map, rules, sym, take}
use Rattle.std.specs.Vec.Iter.{into_iter_items}
use Rattle.supersede.specs.Reach.{has}
use Rattle.listings.specs.Marks.{unmarked}
use Rattle.listings.specs.Sights.{unseen}
use Rattle.listings.proofs.RenewFacts.{first_left, one_passed, one_pushed}
use Rattle.listings.proofs.renewing.unmarked_entries.Goals as goal

pub loop-index-preserved-in-Continue-branch-2 : goal.loop-index-preserved-in-Continue-branch-2
loop-index-preserved-in-Continue-branch-2 c =
    let steps = c.in-Some.ensures.steps in
    let was = c.loop-index.invariant in
    let ids = c.args.ids.now in
    let entries = c.args.entries.items in
    let i = c.loop-index.index-iterator.count in
    let id = c.index-ids-index.result in
    let first = first_left entries i c.in-Some.entry (into_iter_items c.next.new.self.iter) (sym was.left ∙ steps.0.0) in
    let within = first.below in
    let below : i < length ids = omega (arith, within, c.requires.entries) in
    let at : id ≡ get_or ids i id = search (steps.1, c.index-ids-index.is, rules) in
    let off : has c.args.marks.now id ≡ false = search (c.is_marked.ensures, c.if-not-is_marked.true, rules) in
    record {
      len = omega (arith, was.len, steps.0.1, ap length steps.0.0);
      left = sym first.rest ∙ ap (λ n. drop n entries) (sym steps.2);
      kept = λ f says.
          one_pushed f c.args.marks.now ids entries i id c.in-Some.entry below at c.loop-index.kept.items (was.kept f says) says (first.at unseen) off c.push.new.self.items c.in_ok-push.ensures.items
          ∙ ap (λ n. map f (unmarked c.args.marks.now (take n ids))) (sym steps.2);
    }

pub loop-index-preserved : goal.loop-index-preserved
loop-index-preserved c =
    let steps = c.in-Some.ensures.steps in
    let was = c.loop-index.invariant in
    let ids = c.args.ids.now in
    let entries = c.args.entries.items in
    let i = c.loop-index.index-iterator.count in
    let id = c.index-ids-index.result in
    let first = first_left entries i c.in-Some.entry (into_iter_items c.next.new.self.iter) (sym was.left ∙ steps.0.0) in
    let within = first.below in
    let below : i < length ids = omega (arith, within, c.requires.entries) in
    let at : id ≡ get_or ids i id = search (steps.1, c.index-ids-index.is, rules) in
    let on : has c.args.marks.now id ≡ true = search (c.is_marked.ensures, c.if-not-is_marked.false, rules) in
    record {
      len = omega (arith, was.len, steps.0.1, ap length steps.0.0);
      left = sym first.rest ∙ ap (λ n. drop n entries) (sym steps.2);
      kept = λ f says.
          one_passed f c.args.marks.now ids entries i id c.in-Some.entry below at c.loop-index.kept.items (was.kept f says) on
          ∙ ap (λ n. map f (unmarked c.args.marks.now (take n ids))) (sym steps.2);
    }
