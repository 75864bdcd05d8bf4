use Rattle.chain_cache.proofs.kept_surveys.KeptSurveys.is_sampled_at.Goals as goal

pub returns-clause-found : goal.returns-clause-found
returns-clause-found c = c.is_at.ensures.found
