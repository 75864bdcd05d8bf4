-- The output of `check`, and why it ends.
use Rattle.std.specs.Prelude.{◌≡◌, ◌⊎◌, Bool, false, ℕ, IsTrue, List, codes, map, Option, Some, None, Result, Ok, Err}
use Rattle.std.specs.Io.KnownBytes.{Appends, Keeps}
use Rattle.std.specs.List.Sorted.{IsPermutation}
use Rattle.faults.specs.FaultText.{text_of}
use Rattle.faults.specs.declared.any.AnyFault.{AnyFault}
use Rattle.transfer.specs.Transfer.{AppendsFront}
use Rattle.bureau_store.specs.Store.{IsOfRead}
use Rattle.bureau_store.specs.Tables.{NamesAscend, Tables}
use Rattle.bureau_store.specs.declared.caller.CallerRow.{CallerRow}
use Rattle.bureau_store.specs.declared.fault.StoreFault.{StoreFault}
use Rattle.bureau_store.specs.declared.fault.StoreFault.TheVariants.{Device, Memory, Shape, Version}
use Rattle.bureau_sql.specs.Opening.{HasConditions, HasTables, IsNoStore}
use Rattle.bureau_sql.specs.SqlView.{IsAtRest}
use Rattle.sql_checks.specs.Checked.{HasPublisher, IsFound, IsOursIfNumbered}
use Rattle.sql_checks.specs.Kept.{AreKept, table_name}
use Rattle.sql_checks.specs.Refused.{IsCausedBy, IsUnread, IsUnsaid, IsUntallied, SaysCallers, of_callers}
use Rattle.sql_checks.specs.Tally.{IsTallyOf, tally_text}
use Rattle.sql_checks.specs.declared.checking.Finding.{Finding}
use Rattle.sql_checks.specs.declared.checking.Finding.TheVariants.{Whole, OtherTables, OtherOrder, OtherVersion, WrongRow, NoPublisher}
use Rattle.sql_checks.specs.declared.table.StoreTable.TheVariants.{Caller}
use Rattle.sql_checks.specs.declared.tallies.StoreTally.{StoreTally}
use Rattle.sql_reads.specs.Version.{HasVersion}
use Rattle.sql_reads.specs.declared.fault.ReadFault.{ReadFault}
use Rattle.sql_reads.specs.declared.fault.ReadFault.TheVariants as fault
use Rattle.sql_tables.specs.Ours.{IsOurs, held_by}
use Rattle.sql_tables.specs.Reading.{OnlyReads}
use Rattle.sql_tables.specs.Stored.{tables_of}
use Rattle.sqlite_disk.specs.declared.Disk as disk
use Rattle.sqlite_wal.specs.Recovery.{Image}
use Rattle.sqlite.specs.Effect.{Database}
use Rattle.sqlite.specs.Files.{file_state}
use Rattle.sqlite.specs.State.{HasCleanDisk, State}
use Rattle.run_parts.specs.Outputs.{IsMeant, Outputs, line_in}
use Rattle.run_parts.specs.ProgramFault.{of_program, status_of}
use Rattle.run_parts.specs.declared.fault.ProgramFault.TheVariants.{NotWritten}
use Rattle.store_runs.specs.Asked.{Asked, AsksOnce}
use Rattle.store_runs.specs.Desk.{of_store}
use Rattle.store_runs.specs.Ended.{IsRefused, IsUsed}
use Rattle.store_runs.specs.Keeping.{KeepsFound, TellsOnly}
use Rattle.store_runs.specs.declared.checking.CheckFault.{CheckFault}
use Rattle.store_runs.specs.declared.checking.CheckPlace.{CheckPlace}
use Rattle.store_runs.specs.declared.checking.CheckPlace.TheVariants.{Table, Listing}
use Rattle.store_runs.specs.declared.ended.Ended.{Ended}
use Rattle.store_runs.specs.declared.missing.IfMissing.TheVariants.{Refuse}

-- a fault that is in no table
abbrev pub in_no_table : AnyFault → CheckFault
in_no_table fault = record { fault = fault; place = None }

-- a store that is wrong at this place
abbrev pub wrong_in : CheckPlace → CheckFault
wrong_in place = record { fault = of_store Shape; place = Some place }

-- the name of the table of a place; the tables and indexes are listed in `sqlite_schema`
abbrev pub place_name : CheckPlace → List ℕ
place_name (Table table) = table_name table
place_name Listing = codes "sqlite_schema"

-- ---- what is found

-- The text tells how much these tables have, with a row for each caller, in the order of their names.
pub record IsTextOf (tables : Tables) (text : List ℕ) : Type 0 where
  pub callers : List CallerRow
  pub all : IsPermutation tables.callers callers
  pub ascend : NamesAscend (map (λ row. row.name) callers)
  pub tally : StoreTally
  pub tallied : IsTallyOf tables callers tally
  pub is : text ≡ tally_text tally

-- A desk takes the database for a store, it is the bureau's own, each of its rows is one that a read takes, and it has a publisher.
pub record IsWholeStore (database : Database) : Type 0 where
  pub version : HasVersion (Some 2) database
  pub tables : HasTables database.schema
  pub conditions : HasConditions database.schema
  pub ours : IsOursIfNumbered database
  pub kept : AreKept (held_by database)
  pub publisher : HasPublisher database

-- it is such a store, and the text tells how much it has
abbrev pub IsToldWhole : State → State → List ℕ → Type 0
IsToldWhole before after text =
    HasCleanDisk after → IsWholeStore before.committed
    × (IsOurs before.committed → IsTextOf (tables_of (held_by before.committed)) text)

-- the fault for a finding
abbrev pub IsToldAs : Finding → CheckFault → Type 0
IsToldAs Whole told = ⊥
IsToldAs OtherTables told = told ≡ in_no_table (of_store Shape)
IsToldAs OtherOrder told = told ≡ wrong_in Listing
IsToldAs OtherVersion told = told ≡ in_no_table (of_store Version)
IsToldAs (WrongRow table) told = told ≡ wrong_in (Table table)
IsToldAs NoPublisher told = told ≡ wrong_in (Table Caller)

-- a desk wouldn't take the database for a store
abbrev pub IsUnservable : State → State → CheckFault → Type 0
IsUnservable before after told =
    (refused : StoreFault) × (told ≡ in_no_table (of_store refused)) × (HasCleanDisk after → IsNoStore before after refused)

-- it isn't the bureau's own, or a row of the table in the answer isn't one that the bureau writes, or it has no publisher
abbrev pub IsUnsound : State → State → CheckFault → Type 0
IsUnsound before after told = (finding : Finding) × IsToldAs finding told × (HasCleanDisk after → IsFound before.committed finding)

-- The database doesn't say which callers there are, or how much they have.
abbrev pub IsUntold : Option ℕ → Database → Type 0
IsUntold limit database = IsUnsaid of_callers SaysCallers limit database ⊎ ((callers : List CallerRow) × IsUntallied callers limit database)

-- The device has failed; or the rows aren't shown; or the store is whole, and doesn't say how much it has.
abbrev pub IsUnknown : State → State → Type 0
IsUnknown before after = IsCausedBy IsUnread before after ⊎ (IsFound before.committed Whole × IsCausedBy IsUntold before after)

-- Memory ran out; or the fault is that of the device, for a cause.
abbrev pub IsUnanswered : State → State → CheckFault → Type 0
IsUnanswered before after told =
    (told ≡ in_no_table (of_store Memory)) ⊎ ((told ≡ in_no_table (of_store Device)) × (HasCleanDisk after → IsUnknown before after))

-- Why nothing is printed.
abbrev pub IsWrong : State → State → CheckFault → Type 0
IsWrong before after told = IsUnservable before after told ⊎ IsUnsound before after told ⊎ IsUnanswered before after told

-- ---- a run

-- Standard output gets the text of a store that is whole; a front part of it, if it can't be written; or nothing.
abbrev pub IsCheckOutput : Option CheckFault → State → State → Option (List ℕ) → Option (List ℕ) → Type 0
IsCheckOutput None before after old new = (text : List ℕ) × IsToldWhole before after text × Appends old new text
IsCheckOutput (Some told) before after old new =
    ((told ≡ in_no_table (of_program NotWritten)) × (text : List ℕ) × IsToldWhole before after text × AppendsFront old new text)
    ⊎ (IsWrong before after told × Keeps old new)

-- the line of a fault, with the name of the table that is wrong
abbrev pub check_line : CheckFault → Option CheckPlace → List ℕ
check_line told None = text_of told.fault
check_line told (Some place) = line_in told.fault (place_name place)

-- standard error gets the line that tells the fault, as far as it takes it, if there is one; and a text that explains more, if that is
-- asked for
abbrev pub IsCheckTold : Bool → Option CheckFault → Option (List ℕ) → Option (List ℕ) → Type 0
IsCheckTold explain None old new = IsMeant explain old new
IsCheckTold explain (Some told) old new = (line : Option (List ℕ)) × AppendsFront old line (check_line told told.place) × IsMeant explain line new

abbrev pub check_status : Option CheckFault → ℕ
check_status None = 0
check_status (Some told) = status_of told.fault.cause

abbrev pub check_fault_in : {T : Type 0} → Result T CheckFault → Option CheckFault
check_fault_in (Ok _) = None
check_fault_in (Err told) = Some told

-- A whole run: what standard output and standard error get, and the exit status.
pub record IsCheckRun (explain : Bool) (Prints : Option CheckFault → Type 0) (old_errors new_errors : Option (List ℕ)) (status : ℕ) : Type 0 where
  pub outcome : Option CheckFault
  pub output : Prints outcome
  pub told : IsCheckTold explain outcome old_errors new_errors
  pub status_is : status ≡ check_status outcome

-- The output for the files of a store: no connection to them could be made, and the fault tells why; or one was made, which
-- only read its database.
abbrev pub IsFilesChecked : {D : Type 0} {g : disk.Ghosts D} → Image → Option (List ℕ) → Option (List ℕ) → Ended D g → Option CheckFault → Type 0
IsFilesChecked from old new ended outcome =
    ((refused : StoreFault) × (outcome ≡ Some (in_no_table (of_store refused))) × IsRefused false from refused ended × Keeps old new)
    ⊎ IsUsed from (λ found left. IsAtRest (file_state found) × IsCheckOutput outcome (file_state found) (file_state left) old new
    × OnlyReads (file_state found) (file_state left)) ended

-- `check [--explain] STORE`, by the name of its file. It asks for that store alone. Over files that held the bureau's own store, it
-- tells no fault of a store but 41 or 42 (`IsOfRead`), and 44 only with the name of a table. A stop leaves what was there: a
-- database tree by tree, and so a store of either version.
pub record IsCheck (explain : Bool) (asked asked_after : Asked) (from : Image) {D : Type 0} {g : disk.Ghosts D} (name : List ℕ) (outputs : Outputs) (status : ℕ) (ended : Ended D g) : Type 0 where
  pub checked : IsCheckRun explain (IsFilesChecked from outputs.output outputs.written ended) outputs.errors outputs.told status
  pub faults : TellsOnly IsOfRead (λ fault. checked.outcome ≡ Some (in_no_table (of_store fault))) from ended
  pub kept : KeepsFound from ended
  pub asks : AsksOnce asked asked_after name Refuse from (λ fault. checked.outcome ≡ Some (in_no_table (of_store fault))) ended

-- ---- No part of what is promised: private contracts cite it.

-- an open connection is seen to be whole, and how much it has
abbrev pub IsSeenWhole : State → State → List ℕ → Type 0
IsSeenWhole before after text =
    HasCleanDisk after → IsTrue before.is_open → (IsFound before.committed Whole)
    × (IsOurs before.committed → IsTextOf (tables_of (held_by before.committed)) text)

-- or why not
abbrev pub IsSeenWrong : State → State → CheckFault → Type 0
IsSeenWrong before after told =
    ((finding : Finding) × IsToldAs finding told × (HasCleanDisk after → IsTrue before.is_open → IsFound before.committed finding))
    ⊎ (told ≡ in_no_table (of_store Memory))
    ⊎ ((told ≡ in_no_table (of_store Device)) × (HasCleanDisk after → IsTrue before.is_open → IsUnknown before after))

-- the fault for a read that is refused
abbrev pub IsToldOfRead : ReadFault → CheckFault → Type 0
IsToldOfRead refused told = (told ≡ in_no_table (of_store Memory)) ⊎ ((told ≡ in_no_table (of_store Device)) × (refused ≡ fault.Device))
