use Rattle.std.proofs.Common.{◌≡◌, map, take}
use Rattle.mcs_reader.specs.Id.{text_of}
use Rattle.serde_json.specs.Data.{string}
use Rattle.serde_json.specs.View.{view}
use Rattle.reports.proofs.json.text_values.Given as goal

abbrev pub invariant-loop-id : goal.invariant-loop-id
invariant-loop-id l = map view l.values.items ≡ map (λ id. string (text_of id)) (take l.id-index l.ids)
