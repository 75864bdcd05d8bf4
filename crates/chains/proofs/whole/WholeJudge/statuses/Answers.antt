use Rattle.catalogue.proofs.SourceFacts.{told_so}
use Rattle.chains.proofs.whole.WholeJudge.statuses.Goals as goal

pub returns-clause-statuses : goal.returns-clause-statuses
returns-clause-statuses g c = told_so c.in_ok-survey.ensures.survey (λ content is right. c.in_ok-statuses.ensures content c.args.zone.now is)
