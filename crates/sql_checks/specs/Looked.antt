-- No part of what is promised: private contracts cite it. The check of one table's rows.
use Rattle.std.specs.Prelude.{◌≡◌, ◌↔◌, Bool, IfErr, IsTrue, Result}
use Rattle.sqlite.specs.State.{HasCleanDisk, State}
use Rattle.sql_reads.specs.declared.fault.ReadFault.{ReadFault}
use Rattle.sql_reads.specs.declared.fault.ReadFault.TheVariants.{Device}
use Rattle.sql_tables.specs.Ours.{held_by}
use Rattle.sql_checks.specs.Checked.{Looks}
use Rattle.sql_checks.specs.Known.{AllKeep, Known}
use Rattle.sql_checks.specs.Refused.{IsCausedBy, IsUnshown, of_known}

-- The answer says whether all rows of the table keep to its rules; or its rows aren't shown.
pub record IsLooked (known : Known) (old new : State) (result : Result Bool ReadFault) : Type 0 where
  pub looks : Looks old new result (λ database keeps. IsTrue keeps ↔ AllKeep known (held_by database))
  pub cause : IfErr result (λ fault. fault ≡ Device → HasCleanDisk new → IsCausedBy (IsUnshown (of_known known)) old new)
