-- Isolation: each caller is answered as if no other client were there.
use Rattle.std.specs.Prelude.{◌≡◌, ◌⊎◌, ◌==◌, ◌&&◌, ◌||◌, Bool, not, List, [], ◌∷◌, ◌++◌, filter, map, reverse}
use Rattle.bureau_store.specs.Caller.{is_caller}
use Rattle.bureau_store.specs.Tables.{Tables}
use Rattle.bureau_store.specs.declared.caller.Caller.{Caller}
use Rattle.bureau_store.specs.declared.caller.Caller.TheVariants.{Publisher, Client}
use Rattle.bureau.specs.Outcome.{no_room}
use Rattle.bureau.specs.Joint.{CallBy}
use Rattle.bureau.specs.Own.{Asked, Opening, own_answer}

-- the part of the tables that the publisher and one caller find, without anything of all others
abbrev pub opening_of : Caller → Tables → Opening
opening_of Publisher tables = record {
  content = tables.content;
  publisher = tables.last Publisher;
  own = tables.last Publisher;
  zones = [];
  received = [];
}
opening_of (Client name) tables = record {
  content = tables.content;
  publisher = tables.last Publisher;
  own = tables.last (Client name);
  zones = tables.zones name;
  received = tables.received name;
}

-- there was no room for this call: it was answered 503
abbrev pub is_without_room : CallBy → Bool
is_without_room call_by = call_by.answer.status == 503

-- a call of the publisher or of this caller that wasn't answered 503
abbrev pub is_own : Caller → CallBy → Bool
is_own viewer call_by = (is_caller call_by.caller Publisher || is_caller call_by.caller viewer) && not (is_without_room call_by)

abbrev pub asked_in : CallBy → Asked
asked_in call_by = record { caller = call_by.caller; call = call_by.call }

-- the calls before one by the publisher or this caller, without those answered 503, the latest first
abbrev pub own_history : Caller → List CallBy → List Asked
own_history viewer before = map asked_in (filter (is_own viewer) (reverse before))

-- At every point of a run, a call by this caller is answered 503, or as it is if only the caller's own history came.
abbrev pub IsAlone : Caller → Opening → List CallBy → Type 0
IsAlone viewer opening calls =
    (before : List CallBy) (call_by : CallBy) (after : List CallBy) →
    calls ≡ before ++ call_by ∷ after → call_by.caller ≡ viewer →
    (call_by.answer ≡ no_room) ⊎ (call_by.answer ≡ own_answer opening (own_history viewer before) viewer call_by.call)

-- Two runs: if a caller asks the same in both, after the same own history, it is answered the same in both, unless one
-- answer is 503.
abbrev pub AreAnsweredAlike : Caller → List CallBy → List CallBy → Type 0
AreAnsweredAlike viewer calls others =
    (before : List CallBy) (call_by : CallBy) (after : List CallBy) (before2 : List CallBy) (call_by2 : CallBy) (after2 : List CallBy) →
    calls ≡ before ++ call_by ∷ after → others ≡ before2 ++ call_by2 ∷ after2 →
    call_by.caller ≡ viewer → call_by2.caller ≡ viewer → call_by.call ≡ call_by2.call →
    own_history viewer before ≡ own_history viewer before2 →
    (call_by.answer ≡ no_room) ⊎ ((call_by2.answer ≡ no_room) ⊎ (call_by.answer ≡ call_by2.answer))
