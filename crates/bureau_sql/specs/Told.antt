-- How a store answers with what its connection found.
use Rattle.std.specs.Prelude.{◌≡◌, ◌≢◌, ◌≤◌, ◌⊎◌, IsTrue, Result, IfErr, IfOk, Err, Ok}
use Rattle.catalogue.specs.View.{HasFailed}
use Rattle.bureau_store.specs.declared.fault.StoreFault.{StoreFault}
use Rattle.bureau_store.specs.declared.fault.StoreFault.TheVariants.{Device}
use Rattle.sqlite.specs.State.{HasCleanDisk, store_error}
use Rattle.sqlite.specs.declared.error.Error.{Error}
use Rattle.sqlite.specs.declared.error.Error.TheVariants.{SqliteFailure}
use Rattle.sqlite.specs.declared.error.ErrorCode.TheVariants.{DiskFull, TooBig}
use Rattle.sqlite_trees.specs.declared.error.StoreError.TheVariants.{OutOfMemory}
use Rattle.sqlite_trees.specs.declared.store.Store.{Ghosts}
use Rattle.sql_tables.specs.Reading.{HasFailed as HasFailedSince, OnlyReads}
use Rattle.bureau_sql.specs.SqlState.{SqlState}
use Rattle.bureau_sql.specs.SqlView.{shown, sql_view}

-- There is no room: what is written is too large for a row, or the disk is full.
abbrev pub IsOutOfRoom : Error → Type 0
IsOutOfRoom error = (error ≡ SqliteFailure TooBig) ⊎ (error ≡ SqliteFailure DiskFull)

module _ {S : Type 0} (g : Ghosts S) where
  -- The device has failed, which is counted; or the call is refused for something else, and the connection was seen to be
  -- open.
  abbrev pub IsRefusedAs : {Refusal : Type 0} → Refusal → SqlState S → SqlState S → Refusal → Type 0
  IsRefusedAs device old new refusal =
      ((refusal ≡ device) × HasFailed (sql_view g) old new)
      ⊎ ((refusal ≢ device) × (new.failures ≡ old.failures) × (HasCleanDisk (shown g new) → IsTrue (shown g new).is_open))

  -- The answer is what was found, and nothing else.
  pub record IsTold {Answer Fault Refusal : Type 0} (device : Refusal) (old new : SqlState S) (found : Result Answer Fault)
      (answer : Result Answer Refusal) : Type 0 where
    pub reads : OnlyReads (shown g old) (shown g new)
    pub failures_rise : old.failures ≤ new.failures
    pub told : IfOk answer (λ told. (found ≡ Ok told) × (new ≡ old))
    pub heard : IfOk found (λ told. answer ≡ Ok told)
    pub refused : IfErr answer (IsRefusedAs device old new)

  -- A transaction was refused for something else than want of memory. Or the device has failed since. Or the fault is that
  -- of the device because memory was too short to see whether the connection was open.
  abbrev pub IsRefusedFor : {Answer : Type 0} → Result Answer Error → SqlState S → SqlState S → StoreFault → Type 0
  IsRefusedFor made old new fault = (error : Error) × (made ≡ Err error)
      × ((error ≢ store_error OutOfMemory) ⊎ (HasFailedSince (shown g old) (shown g new) ⊎ ((fault ≡ Device) × IsTrue new.unseen)))
