-- What `init`, `migrate` and `callers` do with a store, by the name of its file: what they read, which store they ask for, what is left of
-- its files, what both streams get, and the exit status.
use Rattle.std.specs.Prelude.{◌≡◌, ◌⊎◌, ℕ, Bool, List, Option, Some, is_none}
use Rattle.faults.specs.declared.any.AnyFault.{AnyFault}
use Rattle.bureau_store.specs.declared.caller.CallerRow.{CallerRow}
use Rattle.bureau_store.specs.declared.fault.StoreFault.{StoreFault}
use Rattle.sqlite_disk.specs.declared.Disk as disk
use Rattle.sqlite_wal.specs.Recovery.{Image}
use Rattle.run_parts.specs.Files.{KnownFile, IsContent}
use Rattle.run_parts.specs.Outputs.{Outputs, IsEndedBy, IsToldAlone}
use Rattle.run_parts.specs.ProgramFault.{of_program}
use Rattle.run_parts.specs.declared.fault.ProgramFault.TheVariants.{NotRead, Memory}
use Rattle.store_runs.specs.Asked.{Asked, AsksOnce}
use Rattle.store_runs.specs.Callers.{IsCallersRun, KeepsCallers, files_set}
use Rattle.store_runs.specs.Desk.{AreRowsOf, IsCallersFault, IsInitRun, LeavesMade, MayHaveFault, of_store, of_unopened}
use Rattle.store_runs.specs.Ended.{IsNothing, IsRefused}
use Rattle.store_runs.specs.Keeping.{KeepsFound, KeepsMade, KeepsMigrated}
use Rattle.store_runs.specs.Missing.{if_missing}
use Rattle.store_runs.specs.Migrating.{IsMigrateRun, LeavesMigrated}
use Rattle.store_runs.specs.declared.ended.Ended.{Ended}
use Rattle.store_runs.specs.declared.missing.IfMissing.TheVariants.{Refuse}

-- the callers file was read, and has this fault, if it has one
pub record IsLookedAt (callers : KnownFile) (source : List ℕ) (fault : Option AnyFault) : Type 0 where
  pub content : IsContent callers source
  pub fault_is : MayHaveFault source fault

-- Of the files by their names, of the stores that were asked for before the run and by its end, of what those of its own held, and
-- whether the pages of a file that is made are to end in sums.
module _ (files : List ℕ → KnownFile) (asked asked_after : Asked) (from : Image) (sums : Bool) {D : Type 0} {g : disk.Ghosts D} where
  -- A store with the callers of the callers file is made in the database that a connection finds in the store's files. A file that
  -- isn't there was to be made for callers without a fault alone.
  pub record IsMade (name callers : List ℕ) (outputs : Outputs) (status : ℕ) (ended : Ended D g) : Type 0 where
    pub source : List ℕ
    pub theirs : Option AnyFault
    pub callers_are : IsLookedAt (files callers) source theirs
    pub made : IsInitRun (λ outcome. LeavesMade from source outcome ended) source outputs.output outputs.written outputs.errors outputs.told status
    pub kept : KeepsMade from source made.outcome ended
    pub asks : AsksOnce asked asked_after name (if_missing sums theirs) from (λ fault. made.outcome ≡ Some (of_store fault)) ended

  -- No connection to the store's files can be made, and the fault is told: before one of the callers, but where the file isn't there and
  -- none is made.
  pub record IsNotMade (name callers : List ℕ) (outputs : Outputs) (status : ℕ) (ended : Ended D g) : Type 0 where
    pub source : List ℕ
    pub theirs : Option AnyFault
    pub callers_are : IsLookedAt (files callers) source theirs
    pub fault : StoreFault
    pub refused : IsRefused (is_none theirs) from fault ended
    pub kept : KeepsFound from ended
    pub told : IsToldAlone (of_unopened theirs fault) outputs status
    pub asks : AsksOnce asked asked_after name (if_missing sums theirs) from (λ told. told ≡ fault) ended

  -- `init [--sums] STORE CALLERS`. No store is asked for if the callers file can't be read, or memory ran out for that.
  abbrev pub IsInit : List ℕ → List ℕ → Outputs → ℕ → Ended D g → Type 0
  IsInit name callers outputs status ended =
      IsMade name callers outputs status ended ⊎ IsNotMade name callers outputs status ended
      ⊎ ((IsEndedBy NotRead outputs status ⊎ IsEndedBy Memory outputs status) × IsNothing ended × (asked_after ≡ asked))

-- `migrate STORE`
pub record IsMigrate (asked asked_after : Asked) (from : Image) {D : Type 0} {g : disk.Ghosts D} (name : List ℕ) (outputs : Outputs) (status : ℕ) (ended : Ended D g) : Type 0 where
  pub migrated : IsMigrateRun (λ outcome. LeavesMigrated from outcome ended) outputs.output outputs.written outputs.errors outputs.told status
  pub kept : KeepsMigrated from migrated.outcome ended
  pub asks : AsksOnce asked asked_after name Refuse from (λ fault. migrated.outcome ≡ Some (of_store fault)) ended

-- the callers file has these callers
pub record HasRows (callers : KnownFile) (rows : List CallerRow) : Type 0 where
  pub source : List ℕ
  pub content : IsContent callers source
  pub rows_are : AreRowsOf source rows

-- the callers file has a fault
abbrev pub HasCallerFault : KnownFile → AnyFault → Type 0
HasCallerFault callers fault = (source : List ℕ) × IsContent callers source × IsCallersFault source fault

-- the callers file can't be read or has a fault, or memory ran out
abbrev pub IsNotBegun : KnownFile → AnyFault → Type 0
IsNotBegun callers fault = (fault ≡ of_program NotRead) ⊎ (fault ≡ of_program Memory) ⊎ HasCallerFault callers fault

-- `callers STORE CALLERS`. The callers file is read and checked before the store is asked for.
module _ (files : List ℕ → KnownFile) (asked asked_after : Asked) (from : Image) {D : Type 0} {g : disk.Ghosts D} where
  -- the store in the files gets the callers, or there is none
  pub record IsSet (name callers : List ℕ) (outputs : Outputs) (status : ℕ) (ended : Ended D g) : Type 0 where
    pub rows : List CallerRow
    pub rows_are : HasRows (files callers) rows
    pub set : IsCallersRun (files_set rows from ended) outputs.output outputs.written outputs.errors outputs.told status
    pub kept : KeepsCallers from rows set.outcome ended
    pub asks : AsksOnce asked asked_after name Refuse from (λ fault. set.outcome ≡ Some (of_store fault)) ended

  abbrev pub IsCallers : List ℕ → List ℕ → Outputs → ℕ → Ended D g → Type 0
  IsCallers name callers outputs status ended =
      IsSet name callers outputs status ended
      ⊎ ((fault : AnyFault) × IsNotBegun (files callers) fault × IsToldAlone fault outputs status × IsNothing ended × (asked_after ≡ asked))
