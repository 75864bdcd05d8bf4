use Rattle.std.proofs.Common.{refl}
use Rattle.sql_tables.specs.Stored.{tables_of}
use Rattle.sql_tables.proofs.SetCallersFacts.{callers_set, same_counts}
use Rattle.sql_tables.proofs.law.other_callers.Goals as goal

pub returns-clause-tables : goal.returns-clause-tables
returns-clause-tables c found rows stored all ascend same = callers_set found (tables_of stored).callers ascend same rows stored all refl

pub returns-clause-counts : goal.returns-clause-counts
returns-clause-counts c found rows these ascend same = same_counts found these ascend same rows
