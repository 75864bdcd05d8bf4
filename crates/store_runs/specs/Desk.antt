-- The output of `init`, why it ends and what it leaves of a database, and why a store isn't opened.
use Rattle.std.specs.Prelude.{◌≡◌, ◌⊎◌, ◌++◌, ℕ, IsTrue, List, codes, decimal, length, Option, Some, None, Ok, Err}
use Rattle.std.specs.Io.KnownBytes.{Appends, Keeps}
use Rattle.faults.specs.declared.any.AnyFault.{AnyFault}
use Rattle.transfer.specs.Transfer.{AppendsFront}
use Rattle.bureau_store.specs.CallerFault as callers_fault
use Rattle.bureau_store.specs.Callers.{callers_of}
use Rattle.bureau_store.specs.Tables as tables
use Rattle.bureau_store.specs.StoreFault as store_fault
use Rattle.bureau_store.specs.declared.caller.CallerRow.{CallerRow}
use Rattle.bureau_store.specs.declared.fault.CallerFault.{CallerFault}
use Rattle.bureau_store.specs.declared.fault.CallerFault.TheVariants as callers
use Rattle.bureau_store.specs.declared.fault.StoreFault.{StoreFault}
use Rattle.bureau_store.specs.declared.fault.StoreFault.TheVariants.{Device, Shape, Size, Version}
use Rattle.bureau_store.specs.declared.fault.StoreFault.TheVariants as refused
use Rattle.bureau_sql.specs.Founded.{AreFounded, IsNotFounded, IsNotMade}
use Rattle.bureau_sql.specs.Opening.{HasConditions, HasTables, IsNoStore}
use Rattle.bureau_sql.specs.SqlState.{SqlState}
use Rattle.bureau_sql.specs.SqlView.{IsAtRest, IsOurStore, shown, sql_view}
use Rattle.sql_reads.specs.Version.{HasVersion}
use Rattle.sql_tables.specs.Earlier.{IsOfVersion1}
use Rattle.sql_tables.specs.Ours.{IsOurs, held_by}
use Rattle.sql_tables.specs.Reading.{OnlyReads}
use Rattle.sqlite_disk.specs.declared.Disk as disk
use Rattle.sqlite_trees.specs.Tree.{Trees}
use Rattle.sqlite_trees.specs.declared.store.Store.{Ghosts}
use Rattle.sqlite_wal.specs.Recovery.{Image}
use Rattle.sqlite.specs.Files.{file_state}
use Rattle.sqlite.specs.State.{HasCleanDisk, KeepsCommit, State, Survives}
use Rattle.sql_tables.specs.Stored.{tables_of}
use Rattle.sql_writes.specs.Making.{IsOpened}
use Rattle.store_runs.specs.Ended.{IsUsed}
use Rattle.run_parts.specs.Outputs.{IsTold, run_status}
use Rattle.run_parts.specs.ProgramFault.{of_program}
use Rattle.store_runs.specs.declared.ended.Ended.{Ended}
use Rattle.run_parts.specs.declared.fault.ProgramFault.TheVariants.{NotWritten, Memory}

-- the fault of a run for that of the store
abbrev pub of_store : StoreFault → AnyFault
of_store fault = store_fault.told fault

-- ---- init

-- a callers file has these rows
abbrev pub AreRowsOf : List ℕ → List CallerRow → Type 0
AreRowsOf source rows = callers_of source ≡ Ok rows

-- the number of callers
abbrev pub init_text : List CallerRow → List ℕ
init_text rows = codes "CALLERS " ++ decimal (length rows) ++ codes "\n"

-- the callers file has this fault, or memory ran out
abbrev pub IsCallersFault : List ℕ → AnyFault → Type 0
IsCallersFault source fault =
    ((refused : CallerFault) × (callers_of source ≡ Err refused) × (fault ≡ callers_fault.told refused))
    ⊎ (fault ≡ callers_fault.told callers.Memory)
    ⊎ (fault ≡ of_program Memory)

-- a callers file has rows, or this fault
abbrev pub MayHaveFault : List ℕ → Option AnyFault → Type 0
MayHaveFault source None = (rows : List CallerRow) × AreRowsOf source rows
MayHaveFault source (Some fault) = IsCallersFault source fault

-- What is told of a store that can't be opened: its own fault. If its file isn't there, and none is made since the callers have a fault,
-- it is theirs.
abbrev pub of_unopened : Option AnyFault → StoreFault → AnyFault
of_unopened None fault = of_store fault
of_unopened (Some theirs) Shape = theirs
of_unopened (Some theirs) refused.Memory = of_store refused.Memory
of_unopened (Some theirs) Device = of_store Device
of_unopened (Some theirs) Size = of_store Size
of_unopened (Some theirs) Version = of_store Version

-- that, or the store can't be made
abbrev pub IsInitFault : List ℕ → AnyFault → Type 0
IsInitFault source fault = IsCallersFault source fault ⊎ ((refused : StoreFault) × (fault ≡ of_store refused))

-- Why a database is left as it was: the fault of the callers file; or that of a store which isn't made there. It is 44
-- exactly if the database isn't empty; and if it is empty, 42 or 43 only if the store couldn't be written (`CannotWrite`).
abbrev pub IsInitRefused : List ℕ → State → State → AnyFault → Type 0
IsInitRefused source before after fault =
    IsCallersFault source fault
    ⊎ ((refused : StoreFault) × (fault ≡ of_store refused) × IsNotMade before refused × (HasCleanDisk after → IsNotFounded before after refused))

-- a write failed: standard output has a front part of the line, and the store is made
abbrev pub IsInitCutShort : AnyFault → List ℕ → Option (List ℕ) → Option (List ℕ) → Type 0
IsInitCutShort fault source old new =
    (fault ≡ of_program NotWritten) × ((rows : List CallerRow) × AreRowsOf source rows × AppendsFront old new (init_text rows))

-- Standard output gets the number of the file's callers; or nothing, if no store is made.
abbrev pub IsInitOutput : Option AnyFault → List ℕ → Option (List ℕ) → Option (List ℕ) → Type 0
IsInitOutput None source old new = (rows : List CallerRow) × AreRowsOf source rows × Appends old new (init_text rows)
IsInitOutput (Some fault) source old new = IsInitCutShort fault source old new ⊎ (IsInitFault source fault × Keeps old new)

-- The database is a store of ours with these callers, and no other row. A stop leaves that, and nothing else.
pub record IsNewStore (rows : List CallerRow) (after : State) : Type 0 where
  pub is_open : IsTrue after.is_open
  pub opened : IsOpened rows after.committed
  pub ours : IsOurs after.committed
  pub tables : tables_of (held_by after.committed) ≡ tables.opened rows
  pub rests : IsAtRest after

-- such a store, with the file's callers
abbrev pub HasCallers : List ℕ → State → Type 0
HasCallers source after = HasCleanDisk after → (rows : List CallerRow) × AreRowsOf source rows × IsNewStore rows after

-- What is left of the database of a connection: the tables, also if only the line couldn't be written; else what was there.
abbrev pub IsInitLeft : Option AnyFault → List ℕ → State → State → Type 0
IsInitLeft None source before after = HasCallers source after
IsInitLeft (Some fault) source before after =
    ((fault ≡ of_program NotWritten) × HasCallers source after)
    ⊎ (IsInitRefused source before after fault × (HasCleanDisk after → KeepsCommit before after))

-- the trees are those of a store with the file's callers and no other row, if the database was empty
abbrev pub AreFoundedBy : List ℕ → State → Trees → Type 0
AreFoundedBy source before trees = (rows : List CallerRow) × AreRowsOf source rows × AreFounded before rows trees

-- What a stop may leave: those trees, or else what it might have left before.
abbrev pub InitSurvives : List ℕ → State → State → Type 0
InitSurvives source before after = Survives before after (AreFoundedBy source before)

-- what is left of the files of a store, in which a connection found a database, as also after a stop
abbrev pub LeavesMade : {D : Type 0} {g : disk.Ghosts D} → Image → List ℕ → Option AnyFault → Ended D g → Type 0
LeavesMade from source outcome ended =
    IsUsed from (λ found left. IsAtRest (file_state found) × IsInitLeft outcome source (file_state found) (file_state left)
    × InitSurvives source (file_state found) (file_state left)) ended

-- A whole run: from a callers file to what is left of the database, what standard output and standard error get, and the exit
-- status.
pub record IsInitRun (Leaves : Option AnyFault → Type 0) (source : List ℕ) (old new old_errors new_errors : Option (List ℕ)) (status : ℕ) : Type 0 where
  pub outcome : Option AnyFault
  pub left : Leaves outcome
  pub output : IsInitOutput outcome source old new
  pub told : IsTold outcome old_errors new_errors
  pub status_is : status ≡ run_status outcome

-- ---- a store that is opened

-- No device has failed, and the database was only read. If the disk returned what was written, the database is of version 2,
-- its tables and conditions are there, and a store that was ours is ours. A store of version 1 is not opened.
pub record HasOpened {S : Type 0} (ghosts : Ghosts S) (before : State) (store : SqlState S) : Type 0 where
  pub opened : store.failures ≡ 0
  pub reads : OnlyReads before (shown ghosts store)
  pub version : HasCleanDisk (shown ghosts store) → HasVersion (Some 2) before.committed
  pub other : HasCleanDisk (shown ghosts store) → IsOfVersion1 before.committed → ⊥
  pub found : HasCleanDisk (shown ghosts store) → HasTables before.committed.schema × HasConditions before.committed.schema
  pub ours : HasCleanDisk (shown ghosts store) → IsOurs before.committed → IsOurStore ghosts store
  -- its tables are those of the rows that were committed, and a stop leaves them and no others
  pub tables : HasCleanDisk (shown ghosts store) → (sql_view ghosts).stands store (tables_of (held_by before.committed))
  pub rests : IsAtRest (shown ghosts store)

-- it is refused for a reason that it has, and the reason is told
abbrev pub IsOpenRefused : (StoreFault → Type 0) → Option (List ℕ) → Option (List ℕ) → ℕ → Type 0
IsOpenRefused Has old_errors new_errors status =
    (refused : StoreFault) × Has refused × IsTold (Some (of_store refused)) old_errors new_errors
    × (status ≡ run_status (Some (of_store refused)))

-- the database was only read, and why it is refused is told
pub record IsNotOpened (before after : State) (old_errors new_errors : Option (List ℕ)) (status : ℕ) : Type 0 where
  pub kept : OnlyReads before after
  pub told : IsOpenRefused (λ fault. HasCleanDisk after → IsNoStore before after fault) old_errors new_errors status
