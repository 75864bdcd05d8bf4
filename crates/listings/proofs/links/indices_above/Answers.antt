use Rattle.std.proofs.Common.{◌≡◌, ◌<◌, ◌∙◌, List, ℕ, length, get_or, subst, sym, rules}
use Rattle.std.specs.List.{Contains}
use Rattle.std.specs.Ordering.{nat_cmp}
use Rattle.std.proofs.lemmas.Map.Lookups.{exact_unsigned}
use Rattle.lemmas.proofs.ResultFacts.{ok_so}
use Rattle.listings.specs.Links.{IsAbove}
use Rattle.listings.proofs.WalkFacts.{above_reads, set_found, walk_passes, walk_whole}
use Rattle.listings.proofs.links.indices_above.Goals as goal

pub loop-at-preserved-then-contains : goal.loop-at-preserved-then-contains
loop-at-preserved-then-contains c =
    let next = c.index.result.now in
    let order = c.loop-at.order.items in
    let below : c.loop-at.at < length order = search rules in
    let is : next ≡ get_or order c.loop-at.at next = search rules in
    walk_passes (IsAbove c.args.above.now) c.args.index c.loop-at.found.keys order c.loop-at.at next below is
    (set_found nat_cmp exact_unsigned c.loop-at.found.keys next (sym c.contains.ensures ∙ c.if-contains.true)) c.loop-at.invariant

pub loop-at-preserved : goal.loop-at-preserved
loop-at-preserved c =
    let next = c.index.result.now in
    let order = c.loop-at.order.items in
    let below : c.loop-at.at < length order = search rules in
    let is : next ≡ get_or order c.loop-at.at next = search rules in
    above_reads c.args.above.now c.args.index c.loop-at.found.keys c.insert.new.self.keys order c.extend_from_slice.new.self.items c.row.result.now c.loop-at.at next below is
    c.in_ok-insert.ensures.keys c.row.ensures c.in_ok-extend_from_slice.ensures.items c.loop-at.invariant

pub returns-clause-each : goal.returns-clause-each
returns-clause-each c = ok_so c.listed.result c.listed.ensures.indices (λ indices are q.
    let P : List ℕ → Type 0 = λ l. Contains l q in
    let walked = c.loop-at.invariant in (
      λ inside. walked.reached q (walked.drawn q (subst P are inside)),
      λ leads. subst P (sym are) (walk_whole (IsAbove c.args.above.now) c.args.index c.loop-at.found.keys c.loop-at.order.items c.loop-at.at (search rules) walked q leads),
    ))
