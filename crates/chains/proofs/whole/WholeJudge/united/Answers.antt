use Rattle.catalogue.proofs.SourceFacts.{told_so}
use Rattle.chains.proofs.whole.WholeJudge.united.Goals as goal

pub returns-clause-united : goal.returns-clause-united
returns-clause-united g c = told_so c.in_ok-survey.ensures.survey (λ content is right. c.in_ok-united.ensures.united content c.args.zone.now is)
