use Rattle.std.proofs.Common.{◌≡◌, [], ◌∷◌, Some, ap, map, length}
use Rattle.std.specs.Prelude.{codes}
use Rattle.sqlite.specs.Held.{state}
use Rattle.sqlite.specs.Values.{bound_value}
use Rattle.sqlite_value.specs.Value.{owned}
use Rattle.sqlite_value.specs.declared.value.Value.TheVariants.{Text}
use Rattle.mcs_reader.specs.Id.{text_of}
use Rattle.bureau_store.specs.Tables.{NamesAscend}
use Rattle.sql_tables.specs.Stored.{tables_of}
use Rattle.sql_texts.specs.Reads as read
use Rattle.sql_reads.specs.ZoneCounts.{zone_counted}
use Rattle.sql_reads.proofs.TableFacts.{finds_of_two}
use Rattle.sql_reads.proofs.ZoneFacts.{zones_told}
use Rattle.sql_reads.proofs.zone_counts.zones.Goals as goal

pub returns-clause-finds : goal.returns-clause-finds
returns-clause-finds g c =
    let old = state g.S.Store c.args.conn.now in
    finds_of_two c.zones.result.now (bound_value (owned c.id_of.result) ∷ []) (Text (text_of c.args.client.now) ∷ []) (ap (λ v. bound_value v ∷ []) c.id_of.ensures.value) old (state g.S.Store c.rows_of.new.conn)
    read.zones (codes "zone" ∷ codes "sysmods" ∷ []) 1 c.zones.ensures
    c.in_ok-rows.rows c.as_slice.result.now c.as_slice.ensures.value c.in_ok-rows.ensures.answers c.entries.result
    (λ zones. map Some zones.items ≡ map zone_counted c.as_slice.result.now) (λ zones. NamesAscend (map (λ zone. zone.0) zones.items)) c.entries.ensures.said c.entries.ensures.ascend
    (λ stored zones. zones.items ≡ map (λ zone. (zone.0, length zone.1.rows)) ((tables_of stored).zones c.args.client.now))
    (λ ours answer zones said also. zones_told old.committed.trees c.args.client.now c.id_of.ensures.is_id ours.rows.whole c.as_slice.result.now zones.items also answer said)
