use Rattle.std.proofs.Common.{◌≡◌, List, map, take}
use Rattle.zone_lists.specs.declared.zones.ZoneRow.{ZoneRow}
use Rattle.catalogue.specs.Content.{Content}
use Rattle.verdicts.specs.Judge.{status_of}
use Rattle.chains.specs.Surveys.{IsSurvey}
use Rattle.verdicts.specs.Verdicts.{verdict_of}
use Rattle.chains.proofs.surveying.Survey.statuses.Given as goal

abbrev pub invariant-loop-id : goal.invariant-loop-id
invariant-loop-id l =
    (content : Content) (rows : List ZoneRow) → IsSurvey content rows l.self
    → l.statuses.items ≡ map (λ id. status_of (verdict_of content rows id)) (take l.id-index l.ids)
