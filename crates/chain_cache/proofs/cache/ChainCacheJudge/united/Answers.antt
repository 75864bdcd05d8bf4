use Rattle.std.proofs.Common.{◌≡◌, IfSome, slice_get, subst, sym, take}
use Rattle.chain_cache.specs.Cache.{AreBounded, CacheLists}
use Rattle.chain_cache.proofs.FillFacts.{all_filled_keep}
use Rattle.chain_cache.proofs.SurveyFacts.{found_right}
use Rattle.chain_cache.proofs.cache.ChainCacheJudge.united.Goals as goal

pub returns-in-Some-clause-united : goal.returns-in-Some-clause-united
returns-in-Some-clause-united g c =
    let found = c.in-Some.ensures.found in
    let P : CacheLists → Type 0 = λ cache. IfSome (slice_get cache.surveys.zones c.in-Some.at) (λ kept. c.survey_at.result.now ≡ kept.survey) in
    record {
      told = λ ours clean content stands right.
          c.in_ok-united.ensures.united content c.args.zone.now
          (found_right content c.args.self.now.surveys c.in-Some.at c.args.zone.now found.0 c.survey_at.result.now found.1 (subst P c.find_survey.ensures.same c.survey_at.ensures) right.surveys);
    }

pub returns-in_err-found-clause-bounded : goal.returns-in_err-found-clause-bounded
returns-in_err-found-clause-bounded g c =
    let filled = c.united_by_frames.ensures.filled in
    subst AreBounded (sym (all_filled_keep (take filled.0 c.args.ids.now) c.find_survey.new.self c.united_by_frames.new.self filled.1)) c.find_survey.ensures.bounded

pub returns-in-Some-2-clause-bounded : goal.returns-in-Some-2-clause-bounded
returns-in-Some-2-clause-bounded g c =
    let filled = c.united_by_frames.ensures.filled in
    subst AreBounded (sym (all_filled_keep (take filled.0 c.args.ids.now) c.find_survey.new.self c.united_by_frames.new.self filled.1)) c.find_survey.ensures.bounded
