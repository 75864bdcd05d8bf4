-- No part of what is promised: private contracts cite it. The row of a SYSMOD in a zone. `ZoneList` and `Installed` of
-- zone_lists say what a zone is, and what it says of a SYSMOD.
use Rattle.std.specs.Prelude.{ℕ, List, [], ◌∷◌, Option, Some, None, if◌then◌else◌}
use Rattle.std.specs.Str.{bytes_eq}
use Rattle.zone_lists.specs.declared.zones.ZoneRow.{ZoneRow}
use Rattle.zone_lists.specs.declared.zones.ZoneState.{ZoneState}

-- the state of the first row of a SYSMOD
abbrev pub state_in : List ZoneRow → List ℕ → Option ZoneState
state_in [] id = None
state_in (row ∷ rows) id = if bytes_eq row.sysmod id then Some row.state else state_in rows id
