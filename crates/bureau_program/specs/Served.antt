-- The files of a store after a run that serves, whenever it stops.
use Rattle.std.specs.Prelude.{◌≡◌, ◌⊎◌, List, Option, Some}
use Rattle.faults.specs.declared.any.AnyFault.{AnyFault}
use Rattle.bureau_store.specs.Store.{IsOfRead}
use Rattle.bureau_store.specs.Tables.{Tables}
use Rattle.bureau_store.specs.declared.caller.Caller.{Caller}
use Rattle.bureau_store.specs.declared.fault.StoreFault.TheVariants.{Device}
use Rattle.bureau.specs.Alone.{IsAlone, opening_of}
use Rattle.bureau.specs.Joint.{CallBy, IsRun}
use Rattle.bureau.specs.Kept.{IsWithOneRefused}
use Rattle.connections.specs.Rounds.{AreCallsOf, Log}
use Rattle.bureau_sql.specs.Files.{HoldTables, HoldsStore}
use Rattle.sqlite_disk.specs.declared.Disk as disk
use Rattle.sqlite_wal.specs.Recovery.{Image}
use Rattle.store_runs.specs.Desk.{of_store}
use Rattle.store_runs.specs.Keeping.{EndsWell, KeepsEarlier, Leaves, TellsOnly}
use Rattle.store_runs.specs.declared.ended.Ended.{Ended}

-- a run told 42
abbrev pub HasFailed : Option AnyFault → Type 0
HasFailed outcome = outcome ≡ Some (of_store Device)

-- The tables after these calls. Or, if the device failed and the run told 42, those with the change of one more, which was
-- told 503, and after which nothing was told from the tables.
abbrev pub MayFollow : Option AnyFault → Tables → List CallBy → Tables → Type 0
MayFollow outcome closing calls this = (this ≡ closing) ⊎ (HasFailed outcome × IsWithOneRefused closing calls this)

-- A desk served connections side by side from these tables, and this may be left whenever the run stops from then on. The
-- bytes of the connections made these calls, in the order in which they were answered, and no others: they are one run of
-- the bureau, in which each caller is answered as if alone. Whatever is left holds the bureau's own store again, with the
-- tables after all that was acknowledged. If the device failed, the one change that was on its way may be in it too.
pub record IsServedFrom (before : Tables) (log log_after : Log) (outcome : Option AnyFault) (MayStay : Image → Type 0) : Type 0 where
  pub calls : List CallBy
  pub closing : Tables
  pub made : AreCallsOf before.callers log log_after (HasFailed outcome) calls
  pub run : IsRun before calls closing
  pub alone : (viewer : Caller) → IsAlone viewer (opening_of viewer before) calls
  pub left : (left : Image) → MayStay left → HoldTables left (MayFollow outcome closing calls)

-- A run of `serve`, wherever it ends. Over files that hold the bureau's own store it served connections from its tables. If
-- no files were opened, or an open failed, or the store was refused, it served none. Over files that held the bureau's own
-- store, it tells no fault of a store but 41 or 42 (`IsOfRead`): never that its tables are others, or of another version. A
-- store of version 1 stays, with its tables.
pub record KeepsServed {D : Type 0} {g : disk.Ghosts D} (from : Image) (log log_after : Log) (outcome : Option AnyFault) (ended : Ended D g) : Type 0 where
  pub served : EndsWell from ended → (before : Tables) → HoldsStore from before → IsServedFrom before log log_after outcome (Leaves from ended)
  pub faults : TellsOnly IsOfRead (λ fault. outcome ≡ Some (of_store fault)) from ended
  pub earlier : KeepsEarlier from ended
