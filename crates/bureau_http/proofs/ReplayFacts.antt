-- Connections over a store in memory.
use Rattle.std.proofs.Common.{◌≡◌, ℕ, List, Result, Ok, IfOk, subst}
use Rattle.faults.specs.declared.any.AnyFault.{AnyFault}
use Rattle.std.proofs.lemmas.Result.{IfOk-weaker}
use Rattle.bureau_store.specs.Callers.{callers_of}
use Rattle.bureau_store.specs.Lists.{Lists, tables_of}
use Rattle.bureau_store.specs.Tables.{Tables, opened}
use Rattle.bureau_store.specs.declared.caller.CallerRow.{CallerRow}
use Rattle.bureau.specs.Joint.{CallBy, IsRun}
use Rattle.bureau_http.specs.List.{AreServed, calls_in}
use Rattle.bureau_http.specs.Replay.{IsReplayed}
use Rattle.bureau_http.proofs.ListFacts.{IsPlain}
use Rattle.bureau_http.proofs.ServingFacts.{same_run}

-- whether the desk is open, and what it holds at the end, is not told
pub untold : (Runs : Tables → List CallBy → Tables → Type 0) → IsPlain Runs → (this : Tables) (connections written : List (List ℕ)) → AreServed Runs this connections written
    → AreServed IsRun this connections written
untold Runs plain this connections written served = record {
  exchanges = served.exchanges;
  ran = same_run Runs IsRun this (calls_in served.exchanges) (λ closing run. plain this closing (calls_in served.exchanges) run) served.ran;
  whole = served.whole;
  isolated = served.isolated;
}

-- tables that are the same
pub from_same : {Texts : Type 0} (texts : Texts → List (List ℕ)) (result : Result Texts AnyFault) (connections : List (List ℕ)) (this that : Tables) → this ≡ that
    → IfOk result (λ written. AreServed IsRun this connections (texts written))
    → IfOk result (λ written. AreServed IsRun that connections (texts written))
from_same texts result connections this that same served =
    subst (λ tables. IfOk result (λ written. AreServed IsRun tables connections (texts written))) same served

-- a store that is the same
pub from_store : (connections written : List (List ℕ)) (store that : Lists) → store ≡ that → AreServed IsRun (tables_of store) connections written
    → AreServed IsRun (tables_of that) connections written
from_store connections written store that same served = subst (λ (store : Lists). AreServed IsRun (tables_of store) connections written) same served

-- what is served over a store that is new is a replay
pub replayed : {Texts : Type 0} (texts : Texts → List (List ℕ)) (result : Result Texts AnyFault) (text : List ℕ) (connections : List (List ℕ)) (rows slice : List CallerRow) → slice ≡ rows
    → callers_of text ≡ Ok rows → IfOk result (λ written. AreServed IsRun (opened slice) connections (texts written))
    → IfOk result (λ written. IsReplayed text connections (texts written))
replayed texts result text connections rows slice same read served =
    IfOk-weaker result _ _ (λ written all.
    let whole = subst (λ (r : List CallerRow). AreServed IsRun (opened r) connections (texts written)) same all in
    record { rows = rows; read = read; served = whole; isolated = whole.isolated }) served
