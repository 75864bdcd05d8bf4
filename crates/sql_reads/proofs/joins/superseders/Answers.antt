use Rattle.std.proofs.Common.{◌≡◌, [], ◌∷◌, Some, ap, map}
use Rattle.std.specs.Prelude.{codes}
use Rattle.sqlite.specs.Held.{state}
use Rattle.sqlite.specs.Values.{bound_value}
use Rattle.sqlite_value.specs.Order.{column}
use Rattle.sqlite_value.specs.Value.{owned}
use Rattle.sqlite_value.specs.declared.value.Value.TheVariants.{Text}
use Rattle.mcs_reader.specs.Id.{text_of}
use Rattle.catalogue.specs.Content.{superseders}
use Rattle.catalogue.specs.Ids.{Ascend}
use Rattle.sql_tables.specs.Stored.{tables_of}
use Rattle.sql_tables.specs.Values.{id_in}
use Rattle.sql_texts.specs.Reads as read
use Rattle.sql_reads.proofs.JoinFacts.{superseders_told}
use Rattle.sql_reads.proofs.TableFacts.{finds_of_two}
use Rattle.sql_reads.proofs.joins.superseders.Goals as goal

pub returns-clause-finds : goal.returns-clause-finds
returns-clause-finds g c =
    let old = state g.S.Store c.args.conn.now in
    finds_of_two c.superseders.result.now (bound_value (owned c.id_of.result) ∷ []) (Text (text_of c.args.id.now) ∷ []) (ap (λ v. bound_value v ∷ []) c.id_of.ensures.value) old (state g.S.Store c.rows_of.new.conn)
    read.superseders (codes "id" ∷ []) 1 c.superseders.ensures
    c.in_ok-rows.rows c.as_slice.result.now c.as_slice.ensures.value c.in_ok-rows.ensures.answers c.entries.result
    (λ ids. map Some ids.items ≡ map (λ row. id_in (column row 0)) c.as_slice.result.now) (λ ids. Ascend ids.items) c.entries.ensures.said c.entries.ensures.ascend
    (λ stored ids. ids.items ≡ superseders (tables_of stored).content c.args.id.now)
    (λ ours answer ids said also. superseders_told old.committed.trees c.args.id.now c.id_of.ensures.is_id ours.rows.whole c.as_slice.result.now ids.items also answer said)
