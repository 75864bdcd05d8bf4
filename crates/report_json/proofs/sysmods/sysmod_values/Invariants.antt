use Rattle.std.proofs.Common.{◌≡◌, map, take}
use Rattle.serde_json.specs.View.{view}
use Rattle.catalogue.proofs.TellingFacts.{HasTold}
use Rattle.report_json.specs.Json.{sysmod_data}
use Rattle.report_json.proofs.sysmods.sysmod_values.Given as goal

-- the values are the SYSMODs so far
abbrev pub invariant-loop-id : goal.invariant-loop-id
invariant-loop-id g l = HasTold g.P.Published.content_view l.fn.source l.source (λ content. map view l.values.items ≡ map (sysmod_data content) (take l.id-index l.ids))
