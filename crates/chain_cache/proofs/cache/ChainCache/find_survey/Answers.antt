use Rattle.std.proofs.Common.{◌≡◌, IfSome, Option, Some, slice_get, subst}
use Rattle.chains.specs.Surveys.{SurveyLists}
use Rattle.chain_cache.specs.Cache.{CacheLists, ZoneSurvey}
use Rattle.chain_cache.proofs.cache.ChainCache.find_survey.Goals as goal

pub returns-clause-found : goal.returns-clause-found
returns-clause-found c =
    let kept : SurveyLists → Option ZoneSurvey = λ survey. Some (record { rows = c.args.zone.now; survey = survey }) in
    let P : CacheLists → Type 0 = λ cache. IfSome c.find.result (λ at. (survey : SurveyLists) × (slice_get cache.surveys.zones at ≡ kept survey)) in
    subst P c.self.view_is c.find.ensures.found
