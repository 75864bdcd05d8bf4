use Rattle.sqlite.specs.Held.{state}
use Rattle.sql_checks.specs.Refused.{AreUnseen, IsUnshown, of_rows}
use Rattle.sql_checks.specs.declared.table.StoreTable.TheVariants.{Caller}
use Rattle.sql_checks.proofs.CauseFacts.{caused_so, text_unshown}
use Rattle.sql_checks.proofs.PublisherFacts.{publisher_told}
use Rattle.sql_checks.proofs.ScanFacts.{refused_rows}
use Rattle.sql_checks.proofs.publisher.has_publisher.Goals as goal

pub returns-in-Ok-clause-looks : goal.returns-in-Ok-clause-looks
returns-in-Ok-clause-looks g c =
    publisher_told c.all_columns.result.now c.all_columns.ensures.here (state g.S.Store c.args.conn.now) (state g.S.Store c.rows_of.new.conn) c.in-Ok.rows c.as_slice.result.now c.as_slice.ensures.value
    c.in-Ok.ensures.answers c.is_among.result c.is_among.ensures

pub returns-in-Err-clause-looks : goal.returns-in-Err-clause-looks
returns-in-Err-clause-looks g c =
    refused_rows c.all_columns.result.now (state g.S.Store c.args.conn.now) (state g.S.Store c.rows_of.new.conn) c.in-Err.fault _ _ c.in-Err.ensures.answers

pub returns-in-Err-clause-cause : goal.returns-in-Err-clause-cause
returns-in-Err-clause-cause g c device clean =
    let old = state g.S.Store c.args.conn.now in
    let new = state g.S.Store c.rows_of.new.conn in
    caused_so (IsUnshown (of_rows Caller)) AreUnseen old new (λ limit database why. (Caller, why))
    (text_unshown (of_rows Caller) c.all_columns.result.now c.all_columns.ensures.here old new c.in-Err.fault c.in-Err.ensures.cause device clean)
