-- What `migrate` leaves of a database, and what it tells.
use Rattle.std.proofs.Common.{◌≡◌, ℕ, List, Some, Ok, Err, Result, IfErr, ap, false, inl, inr}
use Rattle.std.specs.Io.KnownBytes.{Keeps}
use Rattle.faults.specs.declared.any.AnyFault.{AnyFault}
use Rattle.sqlite_disk.specs.declared.Disk as disk
use Rattle.sqlite_store.specs.declared.store.FileStore.{FileStore}
use Rattle.sqlite_wal.specs.Recovery.{Image}
use Rattle.sqlite.specs.Files.{file_state}
use Rattle.sqlite.specs.Held.{Held}
use Rattle.sqlite.specs.State.{HasCleanDisk, KeepsCommit, State, Survives}
use Rattle.bureau_sql.specs.Migrated.{AreMigrated, LeavesUntouched}
use Rattle.bureau_sql.specs.Opening.{IsNotEarlier}
use Rattle.bureau_sql.specs.SqlView.{IsAtRest}
use Rattle.bureau_store.specs.declared.fault.StoreFault.{StoreFault}
use Rattle.store_runs.specs.Asked.{Asked, AsksFor, Connected, refused_with}
use Rattle.store_runs.specs.Desk.{of_store}
use Rattle.store_runs.specs.Ended.{HasFound, IsEndOf, IsRefused}
use Rattle.run_parts.specs.Outputs.{IsTold, Outputs, fault_in, run_status}
use Rattle.store_runs.specs.Migrating.{HasMigrated, IsMigrateLeft, IsMigrateRun, LeavesMigrated}
use Rattle.run_parts.specs.ProgramFault.{of_program}
use Rattle.store_runs.specs.NamedStore.{IsMigrate}
use Rattle.store_runs.specs.declared.ended.Ended.{Ended}
use Rattle.store_runs.specs.declared.missing.IfMissing.TheVariants.{Refuse}
use Rattle.run_parts.specs.declared.fault.ProgramFault.TheVariants.{NotWritten}
use Rattle.store_runs.proofs.AskedFacts.{once_connected, once_refused}
use Rattle.store_runs.proofs.KeptFacts.{kept_migrated}

-- it is migrated, whether or not the line could be written
pub migrated : {T : Type 0} (outcome : Result T AnyFault) (before after : State) → HasMigrated before after
    → IfErr outcome (λ fault. fault ≡ of_program NotWritten) → IsMigrateLeft (fault_in outcome) before after
migrated (Ok done) before after has told = has
migrated (Err why) before after has told = inl (told, has)

pub not_migrated : (refused : StoreFault) (fault : AnyFault) (before after : State) → fault ≡ of_store refused
    → (HasCleanDisk after → IsNotEarlier before after refused) → (HasCleanDisk after → KeepsCommit before after)
    → LeavesUntouched before after refused → IsMigrateLeft (Some fault) before after
not_migrated refused fault before after is why kept untouched = inr (refused, is, why, kept, untouched)

-- ---- by the name of the file

module _ {D : Type 0} {g : disk.Ghosts D} (asked asked_after : Asked) (from : Image) (name : List ℕ) (outputs : Outputs) (status : ℕ) (ended : Ended D g) where
  -- no connection to the files could be made
  pub not_connected : (fault : StoreFault) (any : AnyFault) → IsRefused false from fault ended → any ≡ of_store fault → Keeps outputs.output outputs.written
      → IsTold (Some any) outputs.errors outputs.told → status ≡ run_status (Some any) → AsksFor asked asked_after name Refuse from (refused_with fault ended)
      → IsMigrate asked asked_after from name outputs status ended
  not_connected fault any refused is keeps told status_is asks =
      let left : LeavesMigrated from (Some any) ended = inl (fault, ap Some is, refused) in record {
        migrated = record { outcome = Some any; left = left; output = inr (fault, is, keeps); told = told; status_is = status_is };
        kept = kept_migrated from (Some any) ended left;
        asks = once_refused asked asked_after name Refuse from (λ (other : StoreFault). Some any ≡ Some (of_store other)) ended fault refused.left (ap Some is) asks;
      }

  -- one was made, and ended
  pub over_files : (found left : Held (FileStore D g)) → HasFound from found → IsEndOf left ended → IsAtRest (file_state found)
      → Survives (file_state found) (file_state left) (AreMigrated (file_state found))
      → IsMigrateRun (λ outcome. IsMigrateLeft outcome (file_state found) (file_state left)) outputs.output outputs.written outputs.errors outputs.told status
      → AsksFor asked asked_after name Refuse from Connected → IsMigrate asked asked_after from name outputs status ended
  over_files found conn finds ends rested stopped run asks =
      let left : LeavesMigrated from run.outcome ended = inr (record { found = found; finds = finds; left = conn; used = (rested, run.left, stopped); ends = ends }) in record {
        migrated = record { outcome = run.outcome; left = left; output = run.output; told = run.told; status_is = run.status_is };
        kept = kept_migrated from run.outcome ended left;
        asks = once_connected asked asked_after name Refuse from (λ fault. run.outcome ≡ Some (of_store fault)) ended conn ends asks;
      }
