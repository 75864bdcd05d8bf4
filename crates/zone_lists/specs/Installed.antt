-- Whether the rows of a zone list a SYSMOD, and whether it is installed.
use Rattle.std.specs.Prelude.{ℕ, ◌&&◌, Bool, true, false, List}
use Rattle.std.specs.List.{list_any}
use Rattle.std.specs.Str.{bytes_eq}
use Rattle.zone_lists.specs.declared.zones.ZoneRow.{ZoneRow}
use Rattle.zone_lists.specs.declared.zones.ZoneState.{ZoneState}
use Rattle.zone_lists.specs.declared.zones.ZoneState.TheVariants.{Applied, Accepted, Superseded}

-- APPLIED and ACCEPTED stand for a SYSMOD that is installed itself; SUPERSEDED for one that an installed SYSMOD supersedes
abbrev pub is_installed_state : ZoneState → Bool
is_installed_state Applied = true
is_installed_state Accepted = true
is_installed_state Superseded = false

-- a row has this SYSMOD, in any state
abbrev pub is_listed : List ZoneRow → List ℕ → Bool
is_listed rows id = list_any (λ row. bytes_eq row.sysmod id) rows

-- a row has this SYSMOD as installed
abbrev pub is_installed : List ZoneRow → List ℕ → Bool
is_installed rows id = list_any (λ row. bytes_eq row.sysmod id && is_installed_state row.state) rows
