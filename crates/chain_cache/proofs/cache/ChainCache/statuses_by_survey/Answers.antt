use Rattle.std.proofs.Common.{subst, sym}
use Rattle.catalogue.proofs.SourceFacts.{told_so}
use Rattle.chain_cache.specs.Cache.{AreSurveys, CacheLists}
use Rattle.chain_cache.proofs.cache.ChainCache.statuses_by_survey.Goals as goal

pub returns-clause-statuses : goal.returns-clause-statuses
returns-clause-statuses g c =
    told_so c.in_ok-read_listing.ensures.right (λ content right were.
    let P : CacheLists → Type 0 = λ cache. AreSurveys content cache.surveys in
    c.in_ok-statuses.ensures content c.args.zone.now (c.in_ok-survey.ensures content (right (subst P (sym c.self.view_is) were.surveys))))
