use Rattle.catalogue.proofs.SourceFacts.{told_so}
use Rattle.chains.proofs.whole.WholeJudge.verdict.Goals as goal

pub returns-clause-verdict : goal.returns-clause-verdict
returns-clause-verdict g c = told_so c.in_ok-survey.ensures.survey (λ content is right. c.in_ok-verdict.ensures content c.args.zone.now is)
