-- The output of `callers`, why it ends, and what it leaves of a store.
use Rattle.std.specs.Prelude.{◌≡◌, ◌⊎◌, ◌++◌, ℕ, List, codes, decimal, false, Option, Some, None, Result, Ok, Err}
use Rattle.std.specs.Io.KnownBytes.{Appends, Keeps}
use Rattle.faults.specs.declared.any.AnyFault.{AnyFault}
use Rattle.transfer.specs.Transfer.{AppendsFront}
use Rattle.bureau_store.specs.SetCallers.{SetsCallers, with_callers}
use Rattle.bureau_store.specs.Store.{IsOfCall}
use Rattle.bureau_store.specs.Tables.{Tables}
use Rattle.bureau_store.specs.declared.caller.CallerRow.{CallerRow}
use Rattle.bureau_store.specs.declared.fault.StoreFault.{StoreFault}
use Rattle.bureau_store.specs.declared.fault.StoreFault.TheVariants.{Device}
use Rattle.bureau_store.specs.declared.set_callers.CallerCounts.{CallerCounts}
use Rattle.bureau_sql.specs.Files.{HoldTables, HoldsStore}
use Rattle.bureau_sql.specs.Opening.{IsNoStore}
use Rattle.bureau_sql.specs.SqlState.{SqlState}
use Rattle.bureau_sql.specs.SqlView.{IsAtRest, sql_view}
use Rattle.sql_tables.specs.Reading.{OnlyReads}
use Rattle.sqlite_disk.specs.declared.Disk as disk
use Rattle.sqlite_trees.specs.declared.store.Store.{Ghosts}
use Rattle.sqlite_wal.specs.Recovery.{Image}
use Rattle.sqlite.specs.Files.{over_files}
use Rattle.sqlite.specs.Held.{Held, state}
use Rattle.sqlite.specs.State.{HasCleanDisk}
use Rattle.run_parts.specs.Outputs.{IsTold, run_status}
use Rattle.run_parts.specs.ProgramFault.{of_program}
use Rattle.run_parts.specs.declared.fault.ProgramFault.TheVariants.{NotWritten, Memory}
use Rattle.store_runs.specs.Desk.{HasOpened, of_store}
use Rattle.store_runs.specs.Ended.{IsRefused, IsUsed}
use Rattle.store_runs.specs.Keeping as keeping
use Rattle.store_runs.specs.Keeping.{IsDone, KeepsEarlier, TellsOnly}
use Rattle.store_runs.specs.declared.ended.Ended.{Ended}

-- the number of callers, of those that are new, of others that are gone, and of those that have another token
abbrev pub callers_text : CallerCounts → List ℕ
callers_text counts =
    codes "CALLERS " ++ decimal counts.callers ++ codes " ADDED " ++ decimal counts.added
    ++ codes " REMOVED " ++ decimal counts.removed ++ codes " TOKENS " ++ decimal counts.tokens ++ codes "\n"

-- ---- what becomes of a store

-- How a run ends: if a store was opened, by its answer when it got the callers; if none was, by the fault.
pub record CallersEnds : Type 1 where
  pub set : Result CallerCounts StoreFault → Type 0
  pub unopened : StoreFault → Type 0

-- of a store that is open
abbrev pub store_set : {S : Type 0} → Ghosts S → List CallerRow → SqlState S → SqlState S → CallersEnds
store_set g rows old new = record { set = λ answer. SetsCallers (sql_view g) rows old new answer; unopened = λ fault. ⊥ }

-- A store was opened over a connection, and this was its answer when it got these callers. The connection is as the store
-- left it.
pub record IsSetOver {S : Type 0} (g : Ghosts S) (rows : List CallerRow) (before after : Held S) (answer : Result CallerCounts StoreFault) : Type 0 where
  pub opened : SqlState S
  pub has_opened : HasOpened g (state g before) opened
  pub closing : SqlState S
  pub did : SetsCallers (sql_view g) rows opened closing answer
  pub after_is : after ≡ closing.conn

-- the database of a connection was only read, and there is no store in it
abbrev pub IsUnopened : {S : Type 0} → Ghosts S → Held S → Held S → StoreFault → Type 0
IsUnopened g before after fault = IsAtRest (state g before) × OnlyReads (state g before) (state g after)
    × (HasCleanDisk (state g after) → IsNoStore (state g before) (state g after) fault)

-- of a connection
abbrev pub connection_set : {S : Type 0} → Ghosts S → List CallerRow → Held S → Held S → CallersEnds
connection_set g rows before after = record { set = IsSetOver g rows before after; unopened = IsUnopened g before after }

-- of files; no connection to them could be made, or one was
abbrev pub files_set : {D : Type 0} {g : disk.Ghosts D} → List CallerRow → Image → Ended D g → CallersEnds
files_set rows from ended = record {
  set = λ answer. IsUsed from (λ found left. (connection_set over_files rows found left).set answer) ended;
  unopened = λ fault. IsRefused false from fault ended ⊎ IsUsed from (λ found left. (connection_set over_files rows found left).unopened fault) ended;
}

-- ---- what is told

-- the store has the callers, but the line can't be written, and standard output has a front part of it; or memory ran out for it
abbrev pub IsLineLost : AnyFault → CallerCounts → Option (List ℕ) → Option (List ℕ) → Type 0
IsLineLost fault counts old new =
    ((fault ≡ of_program NotWritten) × AppendsFront old new (callers_text counts)) ⊎ ((fault ≡ of_program Memory) × Keeps old new)

-- Standard output gets the line, if the store has the callers; or nothing, if it has those of before.
abbrev pub IsCallersOutput : CallersEnds → Option AnyFault → Option (List ℕ) → Option (List ℕ) → Type 0
IsCallersOutput ends None old new = (counts : CallerCounts) × ends.set (Ok counts) × Appends old new (callers_text counts)
IsCallersOutput ends (Some fault) old new =
    ((counts : CallerCounts) × ends.set (Ok counts) × IsLineLost fault counts old new)
    ⊎ (((refused : StoreFault) × (fault ≡ of_store refused) × (ends.set (Err refused) ⊎ ends.unopened refused)) × Keeps old new)

-- A whole run: the store that it leaves, what standard output and standard error get, and the exit status.
pub record IsCallersRun (ends : CallersEnds) (old new old_errors new_errors : Option (List ℕ)) (status : ℕ) : Type 0 where
  pub outcome : Option AnyFault
  pub output : IsCallersOutput ends outcome old new
  pub told : IsTold outcome old_errors new_errors
  pub status_is : status ≡ run_status outcome

-- ---- what a stop leaves

-- A run that was given callers tells by its end that the store has them: it ended without a fault, or only its line could not be
-- written, or memory ran out for the line.
abbrev pub TellsSet : Option AnyFault → Type 0
TellsSet outcome = IsDone outcome ⊎ (outcome ≡ Some (of_program Memory))

-- The store may have them: its end tells so, or that the device failed.
abbrev pub MayHaveSet : Option AnyFault → Type 0
MayHaveSet outcome = TellsSet outcome ⊎ (outcome ≡ Some (of_store Device))

-- The tables that such a run leaves: as they were, unless its end tells that it has set these callers; or with these
-- callers, if it may have set them.
abbrev pub LeavesSet : List CallerRow → Option AnyFault → Tables → Tables → Type 0
LeavesSet rows outcome before this =
    ((TellsSet outcome → ⊥) × (this ≡ before)) ⊎ (MayHaveSet outcome × (this ≡ with_callers rows before))

-- A run of `callers`, wherever it ends. A store stays, with the tables that were there, or with them and these callers
-- (`LeavesSet`). Over files that held the bureau's own store, it tells no fault of a store but 41, 42 and 43 (`IsOfCall`). A store of
-- version 1 stays, with its tables.
pub record KeepsCallers {D : Type 0} {g : disk.Ghosts D} (from : Image) (rows : List CallerRow) (outcome : Option AnyFault) (ended : Ended D g) : Type 0 where
  pub store : (before : Tables) → HoldsStore from before → keeping.Keeps from ended (λ left. HoldTables left (LeavesSet rows outcome before))
  pub faults : TellsOnly IsOfCall (λ fault. outcome ≡ Some (of_store fault)) from ended
  pub earlier : KeepsEarlier from ended
