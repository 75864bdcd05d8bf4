use Rattle.std.proofs.Common.{◌≡◌, ◌+◌, take}
use Rattle.std.specs.List.{sum_by}
use Rattle.chain_cache.specs.Cache.{survey_bytes}
use Rattle.chain_cache.proofs.kept_surveys.KeptSurveys.fits.Given as goal

abbrev pub invariant-loop-surveyed : goal.invariant-loop-surveyed
invariant-loop-surveyed l = l.room + l.bytes + sum_by survey_bytes (take l.surveyed-index l.self) ≡ 268435456
