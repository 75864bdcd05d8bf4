use Rattle.std.proofs.Common.{◌∙◌, ap}
use Rattle.std.proofs.lemmas.List.{take_all}
use Rattle.catalogue.proofs.SourceFacts.{no_fault, told_so}
use Rattle.catalogue.proofs.TellingFacts.{tells_on}
use Rattle.reports.specs.ChainText.{member_with, plan_items}
use Rattle.reports.proofs.ChainFacts.{plan_by, plan_more}
use Rattle.reports.proofs.chain.plan_values.Goals as goal

pub loop-id-preserved : goal.loop-id-preserved
loop-id-preserved g c =
    tells_on g.met.P.Published.lawful c.loop-id.invariant c.in_ok-holds.ensures.asks.keeps (λ standing. c.in_ok-holds.ensures.asks.is_open (no_fault _)) c.in_ok-holds.ensures.holds (λ content so_far holds.
    plan_more content c.args.plan.now c.loop-id.id-index c.id-item.result c.loop-id.values.items c.push.new.self.items c.in_ok-member_value.field-0
    c.loop-id-test.true c.id-item.is so_far (c.in_ok-member_value.ensures ∙ ap (member_with c.id-item.result) (c.deref.ensures.value ∙ holds)) c.in_ok-push.ensures.items)

pub returns-clause-members : goal.returns-clause-members
returns-clause-members g c =
    told_so c.loop-id.invariant.told (λ content are.
    plan_by content c.loop-id.values.items _ are ∙ ap (plan_items content) (take_all c.loop-id.id-index c.args.plan.now c.loop-id-test.false))
