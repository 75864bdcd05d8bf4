-- The answer of a read, and the connection that it leaves.
use Rattle.std.specs.Prelude.{◌≡◌, ◌⊎◌, IsTrue, Result, IfOk, false}
use Rattle.sqlite.specs.State.{HasCleanDisk, KeepsCommit, State, Survives}
use Rattle.sqlite_disk.specs.Disk.{MoreFaults}
use Rattle.sql_tables.specs.Stored.{Stored}
use Rattle.sql_tables.specs.Ours.{IsOurs, held_by}

module _ (old new : State) where
  -- the device has failed since, or the connection was closed
  abbrev pub HasFailed : Type 0
  HasFailed = MoreFaults old.faults new.faults ⊎ (old.is_open ≡ false)

  -- nothing is committed, and a stop leaves what it would have left
  pub record OnlyReads : Type 0 where
    pub keeps : HasCleanDisk new → KeepsCommit old new
    pub survives : Survives old new (λ trees. ⊥)

  -- A read of a connection at rest. Its answer is true of the committed rows, if the database is ours and the connection
  -- is open after it.
  pub record Finds {Answer Fault : Type 0} (result : Result Answer Fault) (Fact : Stored → Answer → Type 0) : Type 0 where
    pub reads : OnlyReads
    pub is_open : IfOk result (λ answer. HasCleanDisk new → IsTrue new.is_open)
    pub told : IfOk result (λ answer. HasCleanDisk new → IsOurs old.committed → Fact (held_by old.committed) answer)
