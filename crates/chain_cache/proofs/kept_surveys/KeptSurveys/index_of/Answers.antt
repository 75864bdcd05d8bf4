use Rattle.chain_cache.proofs.kept_surveys.KeptSurveys.index_of.Goals as goal

pub returns-then-is_at-clause-found : goal.returns-then-is_at-clause-found
returns-then-is_at-clause-found c = c.is_at.ensures.found c.if-is_at.true

pub returns-then-is_sampled_at-clause-found : goal.returns-then-is_sampled_at-clause-found
returns-then-is_sampled_at-clause-found c = c.is_sampled_at.ensures.found c.if-is_sampled_at.true
