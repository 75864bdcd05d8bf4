use Rattle.std.proofs.Common.{◌≡◌, None, map, take}
use Rattle.columns.specs.Table.{table_with}
use Rattle.bureau.specs.Texts.{zone_columns, zone_fields}
use Rattle.bureau.proofs.texts.zones_table.Given as goal

-- the table has the zones so far
abbrev pub invariant-loop-zone : goal.invariant-loop-zone
invariant-loop-zone l = l.table ≡ table_with zone_columns None (map zone_fields (take l.zone-index l.zones))
