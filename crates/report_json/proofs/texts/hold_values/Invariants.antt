use Rattle.std.proofs.Common.{◌≡◌, map, take}
use Rattle.serde_json.specs.View.{view}
use Rattle.reports.specs.Holds.{HoldLists}
use Rattle.report_json.specs.Json.{hold_data}
use Rattle.report_json.proofs.texts.hold_values.Given as goal

abbrev pub invariant-loop-held : goal.invariant-loop-held
invariant-loop-held l = map view l.values.items ≡ map (λ (held : HoldLists). hold_data held.hold) (take l.held-index l.helds)
