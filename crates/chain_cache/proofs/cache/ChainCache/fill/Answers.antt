use Rattle.catalogue.proofs.SourceFacts.{told_so}
use Rattle.chain_cache.proofs.cache.ChainCache.fill.Goals as goal

pub returns-clause-right : goal.returns-clause-right
returns-clause-right g c =
    told_so c.in_ok-built.ensures.frame (λ content is right. c.in_ok-put.ensures.right content (c.use_kept.ensures.right content right) is)
