use Rattle.std.proofs.Common.{subst, sym}
use Rattle.catalogue.proofs.SourceFacts.{told_so}
use Rattle.chain_cache.specs.Cache.{AreSurveys, CacheLists}
use Rattle.chain_cache.proofs.cache.ChainCache.verdict_by_survey.Goals as goal

pub returns-clause-verdict : goal.returns-clause-verdict
returns-clause-verdict g c =
    told_so c.in_ok-read_listing.ensures.right (λ content right were.
    let P : CacheLists → Type 0 = λ cache. AreSurveys content cache.surveys in
    c.in_ok-verdict.ensures content c.args.zone.now (c.in_ok-survey.ensures content (right (subst P (sym c.self.view_is) were.surveys))))
