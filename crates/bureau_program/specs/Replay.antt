-- The output of `replay`, by a callers file and the bytes of connections.
use Rattle.std.specs.Prelude.{◌≡◌, ◌⊎◌, ℕ, IsTrue, List, Option, Some, None, true}
use Rattle.std.specs.Io.KnownBytes.{Appends, Keeps}
use Rattle.std.specs.List.{flat_map}
use Rattle.faults.specs.declared.any.AnyFault.{AnyFault}
use Rattle.bureau_http.specs.ConnFault.{run_told}
use Rattle.bureau_http.specs.Replay.{IsReplayed}
use Rattle.bureau_http.specs.declared.fault.RunFault.TheVariants as run
use Rattle.bureau_store.specs.Store.{IsOfCall}
use Rattle.bureau_store.specs.declared.fault.StoreFault.{StoreFault}
use Rattle.catalogue.specs.Content.{Content}
use Rattle.chain_cache.specs.Cache.{CacheLists, IsRightFor}
use Rattle.store_runs.specs.Desk.{IsCallersFault, of_store}
use Rattle.transfer.specs.Transfer.{AppendsFront}
use Rattle.run_parts.specs.Outputs.{IsTold, run_status}
use Rattle.run_parts.specs.ProgramFault.{of_program}
use Rattle.run_parts.specs.declared.fault.ProgramFault.TheVariants.{NotWritten, Memory}
use Rattle.sql_writes.specs.Making.{IsEmpty}
use Rattle.sqlite.specs.State.{HasCleanDisk, State}
use Rattle.sqlite_trees.specs.declared.store.Store.{Ghosts}

-- files in which each byte that is read is the one that was written, whatever happens
abbrev pub IsAlwaysClean : {S : Type 0} → Ghosts S → Type 0
IsAlwaysClean {S} g = (store : S) → (g.view store).is_clean ≡ true

-- a cache that is right for whatever is published
abbrev pub IsAlwaysRight : CacheLists → Type 0
IsAlwaysRight cache = (content : Content) → IsRightFor cache content

-- what was written to each connection, in order
abbrev pub joined : List (List ℕ) → List ℕ
joined written = flat_map (λ text. text) written

-- a write failed: standard output has a front part of the replies
abbrev pub IsReplayCutShort : AnyFault → List ℕ → List (List ℕ) → Option (List ℕ) → Option (List ℕ) → Type 0
IsReplayCutShort fault callers connections old new =
    (fault ≡ of_program NotWritten) × ((written : List (List ℕ)) × IsReplayed callers connections written × AppendsFront old new (joined written))

-- it is open and has no tables, if its files returned what was written
abbrev pub IsNewDatabase : State → Type 0
IsNewDatabase at = HasCleanDisk at → IsTrue at.is_open × IsEmpty at.committed

-- The store of a replay is refused as any call of a store may be: for want of memory or of room, or since its device failed.
-- Or memory ran out elsewhere.
abbrev pub IsNotServed : AnyFault → Type 0
IsNotServed fault =
    ((refused : StoreFault) × IsOfCall refused × (fault ≡ of_store refused)) ⊎ (fault ≡ of_program Memory)
    ⊎ (fault ≡ run_told run.Memory)

-- the same, or the callers file has a fault
abbrev pub IsNotReplayed : List ℕ → AnyFault → Type 0
IsNotReplayed callers fault = IsCallersFault callers fault ⊎ IsNotServed fault

-- Standard output gets the replies of connections that were served one after the other, each caller answered as if alone; a
-- front part of them if a write failed; or nothing, if the callers file has a fault or memory ran out.
abbrev pub IsReplayOutput : Option AnyFault → List ℕ → List (List ℕ) → Option (List ℕ) → Option (List ℕ) → Type 0
IsReplayOutput None callers connections old new =
    (written : List (List ℕ)) × IsReplayed callers connections written × Appends old new (joined written)
IsReplayOutput (Some fault) callers connections old new =
    IsReplayCutShort fault callers connections old new ⊎ (IsNotReplayed callers fault × Keeps old new)

-- A whole run: from what is read to what standard output and standard error get, and the exit status.
pub record IsReplayRun (callers : List ℕ) (connections : List (List ℕ)) (old new old_errors new_errors : Option (List ℕ)) (status : ℕ) : Type 0 where
  pub outcome : Option AnyFault
  pub output : IsReplayOutput outcome callers connections old new
  pub told : IsTold outcome old_errors new_errors
  pub status_is : status ≡ run_status outcome
