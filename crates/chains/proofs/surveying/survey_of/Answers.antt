use Rattle.std.proofs.Common.{subst, sym}
use Rattle.catalogue.proofs.SourceFacts.{told_so}
use Rattle.chains.specs.Surveys.{IsSurvey, SurveyLists}
use Rattle.chains.proofs.surveying.survey_of.Goals as goal

pub returns-clause-survey : goal.returns-clause-survey
returns-clause-survey g c =
    told_so c.in_ok-cut.ensures.survey (λ content is.
    let S : SurveyLists → Type 0 = λ survey. IsSurvey content c.args.zone.now survey in
    subst S (sym c.in_ok-resolved.ensures) is)
