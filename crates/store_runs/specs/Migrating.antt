-- The output of `migrate`, why it ends, and what it leaves of a database.
use Rattle.std.specs.Prelude.{◌≡◌, ◌⊎◌, ℕ, IsTrue, List, codes, false, Option, Some, None}
use Rattle.std.specs.Io.KnownBytes.{Appends, Keeps}
use Rattle.faults.specs.declared.any.AnyFault.{AnyFault}
use Rattle.transfer.specs.Transfer.{AppendsFront}
use Rattle.bureau_store.specs.declared.fault.StoreFault.{StoreFault}
use Rattle.sqlite_disk.specs.declared.Disk as disk
use Rattle.sqlite_wal.specs.Recovery.{Image}
use Rattle.sqlite.specs.Files.{file_state}
use Rattle.sqlite.specs.State.{HasCleanDisk, KeepsCommit, State, Survives}
use Rattle.bureau_sql.specs.Migrated.{AreMigrated, LeavesUntouched}
use Rattle.bureau_sql.specs.SqlView.{IsAtRest}
use Rattle.bureau_sql.specs.Opening.{CanMakeConditions, HasTables, IsNotEarlier}
use Rattle.sql_reads.specs.Version.{HasVersion}
use Rattle.sql_tables.specs.Earlier.{IsOfVersion1, held_by_version_1}
use Rattle.sql_tables.specs.Ours.{IsOurs, held_by}
use Rattle.sql_tables.specs.Stored.{tables_of}
use Rattle.store_runs.specs.Desk.{of_store}
use Rattle.store_runs.specs.Ended.{IsRefused, IsUsed}
use Rattle.run_parts.specs.Outputs.{IsTold, run_status}
use Rattle.run_parts.specs.ProgramFault.{of_program}
use Rattle.store_runs.specs.declared.ended.Ended.{Ended}
use Rattle.run_parts.specs.declared.fault.ProgramFault.TheVariants.{NotWritten}

abbrev pub migrated_text : List ℕ
migrated_text = codes "MIGRATED VERSION 2\n"

-- Standard output gets the line if the store is of version 2 now; a front part of it if that can't be written; or nothing,
-- if the store stays as it was.
abbrev pub IsMigrateOutput : Option AnyFault → Option (List ℕ) → Option (List ℕ) → Type 0
IsMigrateOutput None old new = Appends old new migrated_text
IsMigrateOutput (Some fault) old new =
    ((fault ≡ of_program NotWritten) × AppendsFront old new migrated_text)
    ⊎ ((refused : StoreFault) × (fault ≡ of_store refused) × Keeps old new)

-- It is open, a database of version 2 that is ours, with the tables of the one before. A stop leaves that, and nothing else.
pub record IsMigratedTo (before after : State) : Type 0 where
  pub is_open : IsTrue after.is_open
  pub ours : IsOurs after.committed
  pub tables : tables_of (held_by after.committed) ≡ tables_of (held_by_version_1 before.committed)
  pub rests : IsAtRest after

-- The tables were those of version 1 and told that version, and the one of version 2 could be made. A database of version 1 that
-- was ours is such a one.
abbrev pub HasMigrated : State → State → Type 0
HasMigrated before after = HasCleanDisk after → HasVersion (Some 1) before.committed
    × HasTables before.committed.schema × CanMakeConditions before.committed.schema
    × (IsOfVersion1 before.committed → IsMigratedTo before after)

-- What is left of the database of a connection: version 2 with the same tables, also if only the line couldn't be written;
-- else what was there. Unless the device failed, a stop leaves what was there too (`LeavesUntouched`).
abbrev pub IsMigrateLeft : Option AnyFault → State → State → Type 0
IsMigrateLeft None before after = HasMigrated before after
IsMigrateLeft (Some fault) before after =
    ((fault ≡ of_program NotWritten) × HasMigrated before after)
    ⊎ ((refused : StoreFault) × (fault ≡ of_store refused) × (HasCleanDisk after → IsNotEarlier before after refused)
    × (HasCleanDisk after → KeepsCommit before after) × LeavesUntouched before after refused)

-- What is left of the files of a store: no connection to them could be made, and the fault tells why; or one was made, and of its
-- database that is left, as also after a stop.
abbrev pub LeavesMigrated : {D : Type 0} {g : disk.Ghosts D} → Image → Option AnyFault → Ended D g → Type 0
LeavesMigrated from outcome ended =
    ((refused : StoreFault) × (outcome ≡ Some (of_store refused)) × IsRefused false from refused ended)
    ⊎ IsUsed from (λ found left. IsAtRest (file_state found) × IsMigrateLeft outcome (file_state found) (file_state left)
    × Survives (file_state found) (file_state left) (AreMigrated (file_state found))) ended

-- A whole run: what is left of the database, what standard output and standard error get, and the exit status.
pub record IsMigrateRun (Leaves : Option AnyFault → Type 0) (old new old_errors new_errors : Option (List ℕ)) (status : ℕ) : Type 0 where
  pub outcome : Option AnyFault
  pub left : Leaves outcome
  pub output : IsMigrateOutput outcome old new
  pub told : IsTold outcome old_errors new_errors
  pub status_is : status ≡ run_status outcome
