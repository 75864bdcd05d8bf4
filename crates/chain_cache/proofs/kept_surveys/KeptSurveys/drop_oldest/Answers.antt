use Rattle.std.proofs.Common.{◌≡◌, ◌<◌, ◌≤◌, get_or, length, subst, sym}
use Rattle.std.specs.List.{Contains, sum_by}
use Rattle.chain_cache.specs.Cache.{ZoneSurvey, survey_bytes}
use Rattle.chain_cache.proofs.KeptFacts.{fewer_without, less_without}
use Rattle.chain_cache.proofs.kept_surveys.KeptSurveys.drop_oldest.Goals as goal

pub returns-clause-fewer : goal.returns-clause-fewer
returns-clause-fewer c = λ one inside.
    let was = c.self.inside.kept.items in
    let within : c.in-Some.at < length was = subst (λ list. c.in-Some.at < length list) (sym c.self.view_is) c.in-Some.ensures in
    subst (λ list. Contains list one) c.self.view_is
    (fewer_without was c.in-Some.at c.remove.result within c.remove.ensures.value one (subst (λ list. Contains list one) c.remove.ensures.items inside))

pub returns-clause-less : goal.returns-clause-less
returns-clause-less c =
    let was = c.self.inside.kept.items in
    let within : c.in-Some.at < length was = subst (λ list. c.in-Some.at < length list) (sym c.self.view_is) c.in-Some.ensures in
    let less = less_without was c.in-Some.at c.remove.result within c.remove.ensures.value survey_bytes in
    subst (λ list. sum_by survey_bytes c.remove.new.self.items ≤ sum_by survey_bytes list) c.self.view_is
    (subst (λ list. sum_by survey_bytes list ≤ sum_by survey_bytes was) (sym c.remove.ensures.items) less)
