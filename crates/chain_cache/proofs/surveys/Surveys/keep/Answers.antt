use Rattle.std.proofs.Common.{refl, subst, sym}
use Rattle.chain_cache.specs.Cache.{AreBounded, AreSurveys, SurveyedLists}
use Rattle.chain_cache.proofs.SurveyFacts.{right_put}
use Rattle.chain_cache.proofs.surveys.Surveys.keep.Goals as goal

pub returns-clause-right : goal.returns-clause-right
returns-clause-right c = λ content is were.
    let own = c.self.inside in
    let P : SurveyedLists → Type 0 = λ surveys. AreSurveys content surveys in
    right_put content (record { listing = own.listing; marks = own.marks.items; zones = own.kept }) (record { listing = own.listing; marks = own.marks.items; zones = c.put.new.self })
    c.args.zone.now c.args.survey refl refl c.put.ensures.each is (subst P (sym c.self.view_is) were)

pub returns-clause-bounded : goal.returns-clause-bounded
returns-clause-bounded c = λ was.
    let P : SurveyedLists → Type 0 = λ surveys. AreBounded surveys in
    c.put.ensures.bounded (subst P (sym c.self.view_is) was)
