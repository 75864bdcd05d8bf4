use Rattle.std.proofs.Common.{◌≡◌, ◌∙◌, ◌<◌, length, get_or, take, subst, sym, rules}
use Rattle.std.proofs.lemmas.List.{take_all}
use Rattle.catalogue.proofs.SourceFacts.{no_fault, told_so}
use Rattle.supersede.specs.Reach.{IsReach}
use Rattle.supersede.proofs.ReachFacts.{Walked, longer, still_has, walk_ends, walk_goes_on}
use Rattle.catalogue.proofs.TellingFacts.{tells_on}
use Rattle.supersede.proofs.giving.reach.Goals as goal

pub loop-at-preserved : goal.loop-at-preserved
loop-at-preserved g c =
    let law = g.met.P.Published in
    let was = c.loop-at.invariant in
    let alike = c.in_ok-add_new.ensures.alike was.alike in
    let below : c.loop-at.at < length c.loop-at.order.items = search rules in
    let at : c.index.result.now ≡ get_or c.loop-at.order.items c.loop-at.at c.index.result.now = search rules in
    record {
      has_told = tells_on law.lawful was.has_told c.in_ok-above.ensures.asks.keeps (λ standing. c.in_ok-above.ensures.asks.is_open (no_fault _)) c.in_ok-above.ensures.superseders (λ content walked told ascend.
          walk_goes_on content ascend c.args.id.now c.index.result.now c.loop-at.found.keys c.add_new.new.found.keys c.loop-at.order.items c.add_new.new.order.items
          c.deref.result.now c.loop-at.at below at (c.deref.ensures.value ∙ told) was.alike alike c.in_ok-add_new.ensures.found c.in_ok-add_new.ensures.continues (walked ascend));
      alike = alike;
      begun = still_has c.loop-at.order.items c.add_new.new.order.items c.args.id.now c.in_ok-add_new.ensures.continues was.begun;
      within = longer c.loop-at.order.items c.add_new.new.order.items c.loop-at.at c.in_ok-add_new.ensures.continues below;
    }

pub returns-clause-reach : goal.returns-clause-reach
returns-clause-reach g c =
    told_so c.loop-at.invariant.has_told.told (λ content walked ascend.
    let whole : take c.loop-at.at c.loop-at.order.items ≡ c.loop-at.order.items = take_all c.loop-at.at c.loop-at.order.items (search rules) in
    let done = walked ascend in
    subst (λ keys. IsReach content keys c.args.id.now) (sym c.in_ok-listed.ensures.ids)
    (walk_ends content ascend c.loop-at.order.items c.loop-at.found.keys c.args.id.now c.loop-at.invariant.begun c.loop-at.invariant.alike
    (subst (λ asked. Walked content c.loop-at.order.items asked c.args.id.now) whole done)))
