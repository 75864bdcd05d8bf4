-- Changes that come again: each acts once.
use Rattle.std.specs.Prelude.{◌≡◌, ◌<◌, ◌⊎◌, ◌++◌, ℕ, true, List, ◌∷◌, All, Any, Option, Some, None}
use Rattle.bureau_store.specs.Tables.{Tables}
use Rattle.bureau_store.specs.declared.caller.Caller.{Caller}
use Rattle.bureau.specs.Call.{Call, publish, put_zone, drop_zone, put_received, put_patterns, list_zones, report_on, zone_counts, chain, counts}
use Rattle.bureau.specs.Joint.{CallBy, IsRun}
use Rattle.bureau.specs.Outcome.{may_ask, no_room, stale}

-- the number that a change comes with
abbrev pub number_of : Call → Option ℕ
number_of (publish number body) = number
number_of (put_zone number zone body) = number
number_of (drop_zone number zone) = number
number_of (put_received number body) = number
number_of (put_patterns number zone body) = number
number_of (list_zones form) = None
number_of (report_on report wanted zone) = None
number_of (zone_counts zone) = None
number_of (chain zone sysmod) = None
number_of (counts form) = None

-- a change with this number, by a caller who may ask it
pub record IsChange (n : ℕ) (call_by : CallBy) : Type 0 where
  pub allowed : may_ask call_by.caller call_by.call ≡ true
  pub number : number_of call_by.call ≡ Some n

-- one caller's change, and later in the run a change of the same caller with the same number, whatever it asks
pub record ComesAgain (calls : List CallBy) (first again : CallBy) : Type 0 where
  pub number : ℕ
  pub before : List CallBy
  pub between : List CallBy
  pub after : List CallBy
  pub are : calls ≡ before ++ first ∷ (between ++ again ∷ after)
  pub caller : again.caller ≡ first.caller
  pub first_is : IsChange number first
  pub again_is : IsChange number again

-- without its second coming the run leads from the same tables to the same tables
abbrev pub IsRunWithout : Tables → {calls : List CallBy} → {first again : CallBy} → ComesAgain calls first again → Tables → Type 0
IsRunWithout opening {calls} {first} comes closing = IsRun opening (comes.before ++ first ∷ (comes.between ++ comes.after)) closing

-- a change of the same caller with a later number, which was accepted
pub record IsLater (caller : Caller) (n : ℕ) (call_by : CallBy) : Type 0 where
  pub by : call_by.caller ≡ caller
  pub number : ℕ
  pub is : IsChange number call_by
  pub later : n < number
  pub accepted : call_by.answer.status ≡ 200

-- no later change of its caller was accepted before it came again, and it is told the same
abbrev pub KeepsReply : ℕ → CallBy → List CallBy → CallBy → Type 0
KeepsReply number first between again = All (λ call_by. IsLater first.caller number call_by → ⊥) between × (again.answer ≡ first.answer)

-- a later change of its caller was accepted before it came again, and it is told STALE
abbrev pub GoesStale : ℕ → CallBy → List CallBy → CallBy → Type 0
GoesStale number first between again = Any (IsLater first.caller number) between × (again.answer ≡ stale)

-- A change that was told 200 comes again: it is told the same, as long as no later change of its caller was accepted, and STALE
-- from then on; unless there is no room.
abbrev pub IsToldAgain : ℕ → CallBy → List CallBy → CallBy → Type 0
IsToldAgain number first between again = (again.answer ≡ no_room) ⊎ (KeepsReply number first between again ⊎ GoesStale number first between again)

-- a change that was told STALE comes again: it is told so, unless there is no room
abbrev pub IsToldStale : CallBy → Type 0
IsToldStale again = (again.answer ≡ no_room) ⊎ (again.answer ≡ stale)

-- A change that was told 200 acts once. The tables are those that there are without its second coming.
abbrev pub ActsOnce : Tables → List CallBy → Tables → Type 0
ActsOnce opening calls closing =
    (first again : CallBy) → (comes : ComesAgain calls first again) → first.answer.status ≡ 200 →
    IsToldAgain comes.number first comes.between again × IsRunWithout opening comes closing

-- A change that was told STALE stays so, and changes nothing.
abbrev pub StaysStale : Tables → List CallBy → Tables → Type 0
StaysStale opening calls closing =
    (first again : CallBy) → (comes : ComesAgain calls first again) → first.answer ≡ stale →
    IsToldStale again × IsRunWithout opening comes closing
