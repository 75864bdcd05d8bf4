use Rattle.std.proofs.Common.{◌≡◌, IfSome, slice_get, subst, sym}
use Rattle.catalogue.proofs.SourceFacts.{told_so}
use Rattle.chain_cache.specs.Cache.{CacheLists, IsRightFor}
use Rattle.chain_cache.proofs.EntryFacts.{first_inside}
use Rattle.chain_cache.proofs.SurveyFacts.{found_right}
use Rattle.chain_cache.proofs.cache.ChainCacheJudge.verdict.Goals as goal

pub returns-then-use_kept-clause-verdict : goal.returns-then-use_kept-clause-verdict
returns-then-use_kept-clause-verdict g c =
    let filled = c.use_kept.ensures.filled c.if-use_kept.true in
    record {
      told = λ ours clean content stands right.
          c.in_ok-first_verdict.ensures filled.0 content filled.1.first ((c.use_kept.ensures.right content right).frames.each _ filled.0 (first_inside _ _ filled.1.first));
    }

pub returns-in-Some-clause-verdict : goal.returns-in-Some-clause-verdict
returns-in-Some-clause-verdict g c =
    let found = c.in-Some.ensures.found in
    let P : CacheLists → Type 0 = λ cache. IfSome (slice_get cache.surveys.zones c.in-Some.at) (λ kept. c.survey_at.result.now ≡ kept.survey) in
    record {
      told = λ ours clean content stands right.
          c.in_ok-verdict.ensures content c.args.zone.now
          (found_right content c.use_kept.new.self.surveys c.in-Some.at c.args.zone.now found.0 c.survey_at.result.now found.1 (subst P c.find_survey.ensures.same c.survey_at.ensures)
          (c.use_kept.ensures.right content right).surveys);
    }

pub returns-then-is_first-clause-verdict : goal.returns-then-is_first-clause-verdict
returns-then-is_first-clause-verdict g c =
    let filled = c.in_ok-is_first.ensures.filled c.if-is_first.true in
    told_so c.in_ok-is_first.ensures.right (λ content keeps right.
    c.in_ok-first_verdict-2.ensures filled.0 content filled.1.first ((keeps (subst (λ (cache : CacheLists). IsRightFor cache content) (sym c.find_survey.ensures.same) (c.use_kept.ensures.right content right))).frames.each _ filled.0 (first_inside _ _ filled.1.first)))
