use Rattle.std.proofs.Common.{◌<◌, IfSome, length}
use Rattle.chain_cache.proofs.kept_surveys.KeptSurveys.oldest.Given as goal

abbrev pub invariant-loop-at : goal.invariant-loop-at
invariant-loop-at l = IfSome l.oldest (λ at. at < length l.self)
