use Rattle.sqlite.specs.Held.{state}
use Rattle.sql_checks.specs.Refused.{of_version}
use Rattle.sql_checks.proofs.CauseFacts.{text_unshown}
use Rattle.sql_checks.proofs.ScanFacts.{refused_rows, version_told}
use Rattle.sql_checks.proofs.scan.is_version_2.Goals as goal

pub returns-in-Ok-clause-looks : goal.returns-in-Ok-clause-looks
returns-in-Ok-clause-looks g c =
    version_told c.version.result.now c.version.ensures.reads (state g.S.Store c.args.conn.now) (state g.S.Store c.rows_of.new.conn) c.in-Ok.rows c.as_slice.result.now c.as_slice.ensures.value
    c.in-Ok.ensures.answers c.is_2.result c.is_2.ensures

pub returns-in-Err-clause-looks : goal.returns-in-Err-clause-looks
returns-in-Err-clause-looks g c =
    refused_rows c.version.result.now (state g.S.Store c.args.conn.now) (state g.S.Store c.rows_of.new.conn) c.in-Err.fault _ _ c.in-Err.ensures.answers

pub returns-in-Err-clause-cause : goal.returns-in-Err-clause-cause
returns-in-Err-clause-cause g c device clean =
    text_unshown of_version c.version.result.now c.version.ensures.reads (state g.S.Store c.args.conn.now) (state g.S.Store c.rows_of.new.conn) c.in-Err.fault c.in-Err.ensures.cause device clean
