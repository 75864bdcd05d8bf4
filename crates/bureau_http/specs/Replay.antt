-- What a callers file and the bytes of connections lead to, over a store in memory that begins empty.
use Rattle.std.specs.Prelude.{◌≡◌, ◌⊎◌, ℕ, List, Ok, Err}
use Rattle.faults.specs.declared.any.AnyFault.{AnyFault}
use Rattle.bureau_store.specs.CallerFault as callers_fault
use Rattle.bureau_store.specs.Callers.{callers_of}
use Rattle.bureau_store.specs.StoreFault as store_fault
use Rattle.bureau_store.specs.Tables.{opened}
use Rattle.bureau_store.specs.declared.caller.CallerRow.{CallerRow}
use Rattle.bureau_store.specs.declared.fault.CallerFault.{CallerFault}
use Rattle.bureau_store.specs.declared.fault.CallerFault.TheVariants as callers
use Rattle.bureau_store.specs.declared.fault.StoreFault.TheVariants as store
use Rattle.bureau.specs.Joint.{IsRun}
use Rattle.bureau_http.specs.ConnFault.{run_told}
use Rattle.bureau_http.specs.declared.fault.RunFault.TheVariants as run
use Rattle.bureau_http.specs.Isolated.{AreIsolated, joined}
use Rattle.bureau_http.specs.List.{AreServed}

-- The callers are those of the file. The store begins with them and nothing else. All connections were served, one after the
-- other: one run of the bureau, in which each caller is answered as if alone.
pub record IsReplayed (callers : List ℕ) (connections written : List (List ℕ)) : Type 0 where
  pub rows : List CallerRow
  pub read : callers_of callers ≡ Ok rows
  pub served : AreServed IsRun (opened rows) connections written
  -- the tables are in order at the beginning, so each caller is answered as if alone
  pub isolated : AreIsolated (opened rows) (joined served.exchanges)

-- memory ran out: as the callers file was read, as the store was made, or as connections were served
abbrev pub IsOutOfMemory : AnyFault → Type 0
IsOutOfMemory fault = (fault ≡ callers_fault.told callers.Memory) ⊎ (fault ≡ store_fault.told store.Memory) ⊎ (fault ≡ run_told run.Memory)

-- memory ran out, or the callers file has this fault
abbrev pub IsReplayFault : List ℕ → AnyFault → Type 0
IsReplayFault callers fault =
    IsOutOfMemory fault ⊎ ((refused : CallerFault) × (callers_of callers ≡ Err refused) × (fault ≡ callers_fault.told refused))
