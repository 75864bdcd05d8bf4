-- The holds that a report on a zone begins with.
use Rattle.std.specs.Prelude.{◌==◌, ◌&&◌, List, filter}
use Rattle.holddata.specs.HoldKey.{kind_order}
use Rattle.holddata.specs.declared.hold.Hold.{Hold}
use Rattle.holddata.specs.declared.key.Kind.{Kind}
use Rattle.zone_lists.specs.declared.zones.ZoneRow.{ZoneRow}
use Rattle.zone_lists.specs.Installed.{is_installed}
use Rattle.catalogue.specs.Content.{Content}

-- the holds of a kind on SYSMODs that are installed in a zone, in the order of their keys
abbrev pub held_in : Content → List ZoneRow → Kind → List Hold
held_in content rows kind = filter (λ hold. is_installed rows hold.key.sysmod && (kind_order hold.key.kind == kind_order kind)) content.holds
