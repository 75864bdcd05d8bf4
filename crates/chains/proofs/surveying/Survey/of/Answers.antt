use Rattle.std.proofs.Common.{List, subst, sym, ℕ}
use Rattle.std.specs.List.{Contains}
use Rattle.lemmas.proofs.ResultFacts.{ok_so}
use Rattle.chains.specs.Surveys.{IsSurvey, SurveyLists}
use Rattle.chains.proofs.surveying.Survey.of.Goals as goal

pub returns : goal.returns
returns c = ok_so c.resolved.result c.resolved.ensures (λ survey same content is.
    let S : SurveyLists → Type 0 = λ survey. IsSurvey content c.args.zone.now survey in
    let Q : List (List ℕ) → Type 0 = λ l. (id : List ℕ) → Contains l id → Contains c.in_ok-cut.cut.members.items id in
    subst S (sym same) (record {
      cut = c.in_ok-cut.ensures.cut content is;
      whole = subst Q is.ids c.in_ok-cut.ensures.ids;
    }))
