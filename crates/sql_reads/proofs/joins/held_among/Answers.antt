use Rattle.std.proofs.Common.{◌≡◌, [], ◌∷◌, Some, ap, ap₂, map, ◌∙◌}
use Rattle.sqlite.specs.Held.{state}
use Rattle.sqlite.specs.Values.{bound_value}
use Rattle.sqlite_value.specs.Value.{owned}
use Rattle.sqlite_value.specs.declared.value.Value.TheVariants.{Text}
use Rattle.mcs_reader.specs.Id.{text_of}
use Rattle.holddata.specs.HoldBook.{IsInKeyOrder}
use Rattle.bureau_store.specs.Held.{held_in}
use Rattle.sql_tables.specs.Rows.{hold_found}
use Rattle.sql_tables.specs.Stored.{tables_of, zone_rows_of}
use Rattle.sql_tables.specs.Values.{hold_kind_value}
use Rattle.sql_texts.specs.Reads as read
use Rattle.sql_texts.specs.Schema.{hold_columns}
use Rattle.sql_reads.proofs.HeldFacts.{held_told}
use Rattle.sql_reads.proofs.TableFacts.{finds_of_two}
use Rattle.sql_reads.proofs.joins.held_among.Goals as goal

pub returns-clause-finds : goal.returns-clause-finds
returns-clause-finds g c =
    let old = state g.S.Store c.args.conn.now in
    finds_of_two c.held_in.result.now (bound_value (owned c.id_of.result) ∷ bound_value (owned c.id_of-2.result) ∷ bound_value (owned c.hold_kind_value.result) ∷ [])
    (Text (text_of c.args.client.now) ∷ Text (text_of c.args.zone.now) ∷ hold_kind_value c.args.kind ∷ [])
    (ap₂ (λ v w. bound_value v ∷ bound_value w ∷ bound_value (owned c.hold_kind_value.result) ∷ []) c.id_of.ensures.value c.id_of-2.ensures.value
    ∙ ap (λ v. Text (text_of c.args.client.now) ∷ Text (text_of c.args.zone.now) ∷ bound_value v ∷ []) c.hold_kind_value.ensures) old (state g.S.Store c.rows_of.new.conn)
    read.held_in hold_columns 3 c.held_in.ensures
    c.in_ok-rows.rows c.as_slice.result.now c.as_slice.ensures.value c.in_ok-rows.ensures.answers c.entries.result
    (λ holds. map Some holds.items ≡ map hold_found c.as_slice.result.now) (λ holds. IsInKeyOrder holds.items) c.entries.ensures.said c.entries.ensures.ascend
    (λ stored holds. holds.items ≡ held_in (tables_of stored).content (zone_rows_of stored.rows c.args.client.now c.args.zone.now) c.args.kind)
    (λ ours answer holds said also. held_told old.committed.trees c.args.client.now c.args.zone.now c.args.kind c.id_of.ensures.is_id c.id_of-2.ensures.is_id ours.rows.whole c.as_slice.result.now holds.items also answer said)
