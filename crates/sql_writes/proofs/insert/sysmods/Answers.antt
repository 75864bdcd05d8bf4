use Rattle.std.proofs.Common.{arith, length}
use Rattle.sql_writes.specs.Many.{AreNew}
use Rattle.sql_writes.specs.Records.{AreNewRecords, has_id_of, values_of}
use Rattle.sql_writes.proofs.RecordRowFacts.{rows_new, rows_short}
use Rattle.sql_writes.proofs.TakeFacts.{takes_more}
use Rattle.sql_writes.proofs.insert.sysmods.Goals as goal

pub returns-clause-takes : goal.returns-clause-takes
returns-clause-takes g c records same fit short =
    let rows = c.args.rows.now in
    takes_more _ _ _ (length rows) (length rows) (λ stored. AreNew has_id_of values_of rows stored.sysmods) (λ stored. AreNewRecords records stored.sysmods)
    (λ stored new. rows_new records rows same fit stored.sysmods new) (omega arith) (c.rows.ensures.takes (rows_short records rows same short))
