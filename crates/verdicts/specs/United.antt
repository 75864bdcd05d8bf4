-- The members of the chosen plans of some ids.
use Rattle.std.specs.Prelude.{ℕ, List, []}
use Rattle.std.specs.List.{flat_map}
use Rattle.zone_lists.specs.declared.zones.ZoneRow.{ZoneRow}
use Rattle.catalogue.specs.Content.{Content}
use Rattle.catalogue.specs.Ids.{in_order}
use Rattle.verdicts.specs.Verdicts.{Judged, good, held, lack, verdict_of}

-- the chosen plan of a verdict; none if it isn't good
abbrev pub plan_by : Judged → List (List ℕ)
plan_by (good plan) = plan
plan_by (held need) = []
plan_by lack = []

-- the chosen plan of an id in a zone
abbrev pub plan_in : Content → List ZoneRow → List ℕ → List (List ℕ)
plan_in content rows id = plan_by (verdict_of content rows id)

-- the members of the chosen plans of some ids, ascending, each once
abbrev pub united : Content → List ZoneRow → List (List ℕ) → List (List ℕ)
united content rows ids = in_order (flat_map (plan_in content rows) ids)
