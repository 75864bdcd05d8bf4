use Rattle.catalogue.proofs.SourceFacts.{told_so}
use Rattle.plan_reports.proofs.ToldFacts.{told_of}
use Rattle.plan_reports.proofs.answer.plan_answer.Goals as goal

pub returns-clause-text : goal.returns-clause-text
returns-clause-text g c =
    told_so c.in_ok-plan.ensures.plan (λ content planned right.
    told_of c.args.form c.args.report c.args.received.now c.args.name.now content _ _ _ _ c.in_ok-told_as.ensures (planned right))
