-- Laws of every run of the bureau.
use Rattle.std.specs.Prelude.{◌≡◌, List}
use Rattle.catalogue.specs.View.{IsOpen, View}
use Rattle.bureau_store.specs.Tables.{AreInOrder, Tables}
use Rattle.bureau_store.specs.declared.caller.Caller.{Caller}
use Rattle.bureau.specs.Alone.{AreAnsweredAlike, IsAlone, opening_of}
use Rattle.bureau.specs.Joint.{CallBy, IsRun}
use Rattle.bureau.specs.Kept.{IsKeptRun, MayBeLeft, Rests}
use Rattle.bureau.specs.Repeat.{ActsOnce, StaysStale}

pub record IsLawfulRun {Desk : Type 0} (view : View Desk Tables) (old new : Desk) (this : Tables) (calls : List CallBy) (next : Tables) : Type 0 where
  -- it is a run of the bureau that all callers share
  pub run : IsRun this calls next
  -- what is told as accepted is kept
  pub kept : IsKeptRun view old new this calls next
  -- a stop loses nothing that was acknowledged
  pub stops : IsOpen view old → Rests view old this → (left : Tables) → view.may_leave new left → MayBeLeft view new calls next left
  -- each caller is answered as if alone
  pub alone : AreInOrder this → (viewer : Caller) → IsAlone viewer (opening_of viewer this) calls
  -- and alike in every run that opens alike for that caller
  pub alike : (opening closing : Tables) (others : List CallBy) (viewer : Caller) → AreInOrder this → AreInOrder opening →
      IsRun opening others closing → opening_of viewer this ≡ opening_of viewer opening → AreAnsweredAlike viewer calls others
  -- a change acts once, however often it comes
  pub once : ActsOnce this calls next
  -- and is told STALE once a later one was accepted
  pub stale : StaysStale this calls next
