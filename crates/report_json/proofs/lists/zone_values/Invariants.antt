use Rattle.std.proofs.Common.{◌≡◌, map, take}
use Rattle.serde_json.specs.View.{view}
use Rattle.report_json.specs.Json.{zone_data}
use Rattle.report_json.proofs.lists.zone_values.Given as goal

abbrev pub invariant-loop-zone : goal.invariant-loop-zone
invariant-loop-zone l = map view l.values.items ≡ map zone_data (take l.zone-index l.zones)
