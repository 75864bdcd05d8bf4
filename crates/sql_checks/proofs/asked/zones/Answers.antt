use Rattle.std.proofs.Common.{◌≡◌, [], ◌∷◌, ap, length}
use Rattle.std.specs.Prelude.{codes, sum_by}
use Rattle.mcs_reader.specs.Id.{text_of}
use Rattle.sqlite.specs.Held.{state}
use Rattle.sqlite.specs.Values.{bound_value}
use Rattle.sqlite_value.specs.Value.{owned}
use Rattle.sqlite_value.specs.declared.value.Value.TheVariants.{Text}
use Rattle.sql_tables.specs.Stored.{tables_of}
use Rattle.sql_texts.specs.Reads as read
use Rattle.sql_reads.proofs.TableFacts.{finds}
use Rattle.sql_checks.specs.Refused.{SaysZones, of_zones}
use Rattle.sql_checks.proofs.CauseFacts.{rows_unsaid, text_unsaid}
use Rattle.sql_checks.proofs.SayFacts.{zones_counted}
use Rattle.sql_checks.proofs.asked.zones.Goals as goal

pub returns-in-Ok-clause-finds : goal.returns-in-Ok-clause-finds
returns-in-Ok-clause-finds g c =
    let old = state g.S.Store c.args.conn.now in
    let rows = c.as_slice.result.now in
    let name = c.args.name.now in
    finds c.zones.result.now (bound_value (owned c.id_of.result) ∷ []) (Text (text_of name) ∷ []) (ap (λ v. bound_value v ∷ []) c.id_of.ensures.value) old (state g.S.Store c.rows_of.new.conn)
    read.zones (codes "zone" ∷ codes "sysmods" ∷ []) 1 c.zones.ensures c.in-Ok.rows rows c.as_slice.ensures.value c.in-Ok.ensures.answers c.zones-in-Ok.result (SaysZones rows) c.zones-in-Ok.ensures.said
    (λ stored counts. (counts.0 ≡ length ((tables_of stored).zones name)) × (counts.1 ≡ sum_by (λ zone. length zone.1.rows) ((tables_of stored).zones name)))
    (λ ours answer counts said. zones_counted old.committed.trees name c.id_of.ensures.is_id ours.rows.whole rows counts answer said)

pub returns-in-Ok-clause-cause : goal.returns-in-Ok-clause-cause
returns-in-Ok-clause-cause g c =
    rows_unsaid (of_zones c.args.name.now) SaysZones c.zones.result.now c.zones.ensures (bound_value (owned c.id_of.result) ∷ []) (ap (λ v. bound_value v ∷ []) c.id_of.ensures.value)
    (state g.S.Store c.args.conn.now) (state g.S.Store c.rows_of.new.conn) c.in-Ok.rows c.as_slice.result.now c.as_slice.ensures.value c.in-Ok.ensures.answers c.zones-in-Ok.result c.zones-in-Ok.ensures.unsaid

pub returns-in-Err-clause-cause : goal.returns-in-Err-clause-cause
returns-in-Err-clause-cause g c =
    text_unsaid (of_zones c.args.name.now) SaysZones c.zones.result.now c.zones.ensures (bound_value (owned c.id_of.result) ∷ []) (ap (λ v. bound_value v ∷ []) c.id_of.ensures.value)
    (state g.S.Store c.args.conn.now) (state g.S.Store c.rows_of.new.conn) c.in-Err.fault c.in-Err.ensures.cause
