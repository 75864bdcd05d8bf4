use Rattle.std.proofs.Common.{◌≡◌, [], ◌∷◌, Some, ap}
use Rattle.std.specs.Prelude.{codes, option_map, unwrap_or}
use Rattle.sqlite.specs.Held.{state}
use Rattle.sqlite.specs.Values.{bound_value}
use Rattle.sqlite_value.specs.Value.{owned}
use Rattle.sqlite_value.specs.declared.value.Value.TheVariants.{Text}
use Rattle.mcs_reader.specs.Id.{text_of}
use Rattle.bureau_store.specs.Tables.{no_change}
use Rattle.sql_tables.specs.Rows.{change_found}
use Rattle.sql_tables.specs.Stored.{tables_of}
use Rattle.sql_texts.specs.Reads as read
use Rattle.sql_reads.specs.Answering.{one_of}
use Rattle.sql_reads.proofs.ClientFacts.{last_told}
use Rattle.sql_reads.proofs.TableFacts.{finds}
use Rattle.sql_reads.proofs.table.last_change.last.Goals as goal

pub returns-clause-finds : goal.returns-clause-finds
returns-clause-finds g c =
    let old = state g.S.Store c.args.conn.now in
    let it = c.name.ensures in
    finds c.last_change.result.now (bound_value (owned c.name.result) ∷ []) (Text (text_of it.0) ∷ []) (ap (λ v. bound_value v ∷ []) it.3) old (state g.S.Store c.rows_of.new.conn)
    read.last_change (codes "number" ∷ codes "body" ∷ []) 1 c.last_change.ensures.reads
    c.in_ok-rows.rows c.as_slice.result.now c.as_slice.ensures.value c.in_ok-rows.ensures.answers c.change_or_none.result
    (λ last. option_map (λ found. unwrap_or found no_change) (one_of change_found c.as_slice.result.now) ≡ Some (record { number = last.0; reply = last.1.items })) c.change_or_none.ensures
    (λ stored last. record { number = last.0; reply = last.1.items } ≡ (tables_of stored).last c.args.caller.now)
    (λ ours answer last said. last_told old.committed.trees c.args.caller.now it.0 c.as_slice.result.now (record { number = last.0; reply = last.1.items }) it.1 it.2 answer said)
