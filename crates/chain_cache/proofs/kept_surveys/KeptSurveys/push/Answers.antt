use Rattle.std.proofs.Common.{◌≡◌, ◌⊎◌, ◌+◌, ◌≤◌, subst}
use Rattle.std.specs.Result.{is_ok}
use Rattle.std.specs.List.{Contains, sum_by}
use Rattle.chain_cache.specs.Cache.{ZoneSurvey, survey_bytes}
use Rattle.chain_cache.proofs.KeptFacts.{bytes_with, cases_with}
use Rattle.chain_cache.proofs.kept_surveys.KeptSurveys.push.Goals as goal

pub returns-clause-each : goal.returns-clause-each
returns-clause-each c = λ one inside.
    let put : ZoneSurvey = record { rows = c.args.zone; survey = c.args.survey } in
    subst (λ list. Contains list one ⊎ (one ≡ put)) c.self.view_is (cases_with c.self.inside.kept.items put (is_ok c.push.result) c.push.new.self.items c.push.ensures.items one inside)

pub returns-clause-bytes : goal.returns-clause-bytes
returns-clause-bytes c =
    let put : ZoneSurvey = record { rows = c.args.zone; survey = c.args.survey } in
    subst (λ list. sum_by survey_bytes c.push.new.self.items ≤ (sum_by survey_bytes list + survey_bytes put)) c.self.view_is
    (bytes_with c.self.inside.kept.items put survey_bytes (is_ok c.push.result) c.push.new.self.items c.push.ensures.items)
