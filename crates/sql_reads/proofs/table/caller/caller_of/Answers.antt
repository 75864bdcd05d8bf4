use Rattle.std.proofs.Common.{◌≡◌, [], ◌∷◌, Some, refl}
use Rattle.std.specs.Prelude.{codes}
use Rattle.sqlite.specs.Held.{state}
use Rattle.sqlite_value.specs.declared.value.Value.TheVariants.{Text}
use Rattle.bureau_store.specs.Caller.{caller_with}
use Rattle.sql_tables.specs.Stored.{tables_of}
use Rattle.sql_texts.specs.Reads.{from_table, is_given}
use Rattle.sql_reads.specs.Answering.{one_of}
use Rattle.sql_reads.proofs.CallerFacts.{caller_told, name_shown}
use Rattle.sql_reads.proofs.TableFacts.{finds}
use Rattle.sql_reads.proofs.table.caller.caller_of.Goals as goal

pub returns-clause-finds : goal.returns-clause-finds
returns-clause-finds g c =
    let old = state g.S.Store c.args.conn.now in
    finds c.name_by_token.result.now (Text c.args.token.now ∷ []) (Text c.args.token.now ∷ []) refl old (state g.S.Store c.rows_of.new.conn) (from_table 1 (is_given 2 0 ∷ []) (1 ∷ []) (1 ∷ [])) (codes "name" ∷ []) 1 c.name_by_token.ensures
    c.in_ok-rows.rows c.as_slice.result.now c.as_slice.ensures.value c.in_ok-rows.ensures.answers c.caller_in_rows.result
    (λ found. one_of name_shown c.as_slice.result.now ≡ Some found) c.caller_in_rows.ensures.caller (λ stored found. found ≡ caller_with (tables_of stored).callers c.args.token.now)
    (λ ours answer found one. caller_told old.committed.trees c.args.token.now c.as_slice.result.now found ours.rows.whole answer one)
