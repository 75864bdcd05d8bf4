use Rattle.std.proofs.Common.{◌≤◌}
use Rattle.std.specs.List.{Contains, sum_by}
use Rattle.chain_cache.specs.Cache.{ZoneSurvey, survey_bytes}
use Rattle.chain_cache.proofs.kept_surveys.KeptSurveys.make_room.Given as goal

abbrev pub invariant-loop : goal.invariant-loop
invariant-loop l = record {
  fewer : (one : ZoneSurvey) → Contains l.self one → Contains l.fn.self one;
  less : sum_by survey_bytes l.self ≤ sum_by survey_bytes l.fn.self;
}
