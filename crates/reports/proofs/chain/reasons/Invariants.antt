use Rattle.std.proofs.Common.{◌≡◌, map, take}
use Rattle.mcs_reader.specs.Id.{text_of}
use Rattle.serde_json.specs.Data.{string}
use Rattle.serde_json.specs.View.{view}
use Rattle.reports.specs.ChainText.{reasons_in}
use Rattle.reports.proofs.chain.reasons.Given as goal

-- the values are the reasons so far
abbrev pub invariant-loop-hold : goal.invariant-loop-hold
invariant-loop-hold l = map view l.values.items ≡ map (λ reason. string (text_of reason)) (reasons_in l.kind (take l.hold-index l.holds))
