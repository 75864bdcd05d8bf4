use Rattle.std.proofs.Common.{refl}
use Rattle.sql_checks.specs.Kept.{KeepTo}
use Rattle.sql_checks.specs.contracts.table.StoreTable.{the_type}
use Rattle.sql_checks.specs.declared.table.TheConstants.{TABLES}
use Rattle.sql_checks.proofs.VariantFacts.{every}
use Rattle.sql_checks.proofs.table.StoreTable.all.Goals as goal

-- no table is left out
pub returns : goal.returns
returns c = λ stored all table. every the_type tt (λ table. KeepTo table stored) table TABLES refl refl all
