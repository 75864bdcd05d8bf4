use Rattle.std.proofs.Common.{◌∙◌, sym}
use Rattle.catalogue.proofs.SourceFacts.{no_fault}
use Rattle.supersede.specs.Giving.{is_candidate}
use Rattle.catalogue.proofs.TellingFacts.{tells_on, told_by_two}
use Rattle.blocked_needs.proofs.ListFacts.{find_at, find_later}
use Rattle.blocked_needs.proofs.applying.first_that_applies.Goals as goal

pub loop-id-preserved : goal.loop-id-preserved
loop-id-preserved g c =
    tells_on g.met.P.Published.lawful c.loop-id.invariant c.in_ok-applies.ensures.asks.keeps (λ standing. c.in_ok-applies.ensures.asks.stays_open (no_fault _) standing) c.in_ok-applies.ensures.applies (λ content so_far is.
    find_later (is_candidate content c.args.zone.now) c.args.ids.now c.loop-id.id-index c.id-item.result c.loop-id-test.true c.id-item.is so_far (sym is ∙ c.if-branch.false))

pub returns-then-branch-clause-first : goal.returns-then-branch-clause-first
returns-then-branch-clause-first g c =
    let law = g.met.P.Published.lawful in
    told_by_two (law.keeps _ _ c.loop-id.invariant.keeps) (law.keeps _ _ c.in_ok-applies.ensures.asks.keeps) c.loop-id.invariant.told c.in_ok-applies.ensures.applies (λ content so_far is.
    sym (find_at (is_candidate content c.args.zone.now) c.args.ids.now c.loop-id.id-index c.id-item.result c.loop-id-test.true c.id-item.is so_far (sym is ∙ c.if-branch.true)))
