use Rattle.std.proofs.Common.{◌≡◌, drop, map, take}
use Rattle.catalogue.specs.Seen.{seen_in}
use Rattle.sql_tables.specs.Stored.{Stored, tables_of}
use Rattle.sql_reads.specs.Scans.{AreLeft}
use Rattle.sql_reads.proofs.many.each_seen.Given as goal

-- the ids so far are seen as the tables have them, and all rows of those to come are left
abbrev pub invariant-loop-id : goal.invariant-loop-id
invariant-loop-id l = (stored : Stored) → AreLeft stored l.ids l.initial.queues
    → (l.seen.items ≡ map (seen_in (tables_of stored).content) (take l.id-index l.ids)) × AreLeft stored (drop l.id-index l.ids) l.queues
