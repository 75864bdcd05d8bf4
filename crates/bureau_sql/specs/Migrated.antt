-- A file of version 1 after the transaction that makes it one of version 2.
use Rattle.std.specs.Prelude.{◌≡◌, ◌≢◌, ◌⊎◌, IsTrue, Result}
use Rattle.bureau_store.specs.declared.fault.StoreFault.{StoreFault}
use Rattle.bureau_store.specs.declared.fault.StoreFault.TheVariants.{Device, Memory}
use Rattle.sqlite.specs.Effect.{Database}
use Rattle.sqlite.specs.State.{HasCleanDisk, KeepsCommit, State}
use Rattle.sqlite_trees.specs.Tree.{Trees}
use Rattle.sql_tables.specs.Earlier.{IsOfVersion1, held_by_version_1}
use Rattle.sql_tables.specs.Ours.{IsOurs, version_rows}
use Rattle.sql_tables.specs.Reading.{HasFailed}
use Rattle.sql_writes.specs.Migrating.{HeldEarlier, HoldsAll, IsMigration}
use Rattle.bureau_sql.specs.Founded.{IsLed}
use Rattle.bureau_sql.specs.Opening.{IsTaken}

-- What was committed was taken for a database of version 1, and is no store of version 2. The trees are those after the
-- three statements of the migration. If it is ours, they are those of version 2 with its rows.
pub record AreMigrated (old : State) (trees : Trees) : Type 0 where
  pub was_open : IsTrue old.is_open
  pub taken : IsTaken old.committed
  pub other : IsOurs old.committed → ⊥
  pub made : (database : Database) × IsMigration old.committed database × (database.trees ≡ trees)
  pub led : IsOfVersion1 old.committed
      → (database : Database) × HoldsAll (version_rows 2) (held_by_version_1 old.committed) database × (database.trees ≡ trees)

abbrev pub IsMigrated : {Answer Fault : Type 0} → State → State → Result Answer Fault → Type 0
IsMigrated old new result = IsLed old new result (HeldEarlier (held_by_version_1 old.committed)) (HoldsAll (version_rows 2) (held_by_version_1 old.committed))

-- the same of whatever is committed: the three statements of the migration make it what it becomes
pub record LeadsToMigration {Answer Fault : Type 0} (old new : State) (result : Result Answer Fault) : Type 0 where
  pub led : IsLed old new result (λ database. database ≡ old.committed) (IsMigration old.committed)

-- Nothing is committed, and a stop leaves what it would have left before, or what was committed then.
pub record IsUntouched (old new : State) : Type 0 where
  pub keeps : HasCleanDisk new → KeepsCommit old new
  pub left : HasCleanDisk new → (trees : Trees) → new.may_leave trees → old.may_leave trees ⊎ (IsTrue old.is_open × (trees ≡ old.committed.trees))

-- So it is after a refusal for anything but the device. But if memory was too short to see whether the connection is open,
-- the device may have failed too.
abbrev pub LeavesUntouched : State → State → StoreFault → Type 0
LeavesUntouched old new fault =
    HasCleanDisk new → fault ≢ Device → IsUntouched old new ⊎ ((fault ≡ Memory) × HasFailed old new)
