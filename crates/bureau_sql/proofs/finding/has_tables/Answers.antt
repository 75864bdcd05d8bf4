use Rattle.sqlite.specs.Held.{state}
use Rattle.sql_reads.specs.Columns.{tables_of_version_1}
use Rattle.bureau_sql.proofs.OpenFacts.{all_asked, seen_tables, tables_found}
use Rattle.bureau_sql.proofs.finding.has_tables.Goals as goal

pub returns-clause-cause : goal.returns-clause-cause
returns-clause-cause g c =
    seen_tables c.columns_of_tables.result (state g.S.Store c.args.conn.now) (state g.S.Store c.can_read_all.new.conn) c.can_read_all.result c.can_read_all.ensures.cause
    c.columns_of_tables.ensures.here c.columns_of_tables.ensures.version_1

pub returns-clause-tables : goal.returns-clause-tables
returns-clause-tables g c =
    let schema = (state g.S.Store c.args.conn.now).committed.schema in
    tables_found schema (state g.S.Store c.can_read_all.new.conn) c.can_read_all.result
    (all_asked schema tables_of_version_1 c.columns_of_tables.result c.columns_of_tables.ensures.here) c.can_read_all.ensures.understood
