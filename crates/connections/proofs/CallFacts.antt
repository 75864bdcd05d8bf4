-- The calls that connections made.
use Rattle.std.proofs.Common.{◌≡◌, inl, ℕ, List, [], ◌∷◌, ◌++◌, None, refl, sym, ap, subst}
use Rattle.std.proofs.Math.ListN.{replicate}
use Rattle.bureau_store.specs.Tables.{Tables}
use Rattle.bureau_store.specs.declared.caller.CallerRow.{CallerRow}
use Rattle.bureau.specs.Joint.{CallBy}
use Rattle.bureau_http.specs.Exchange.{calls_of}
use Rattle.connections.specs.Items.{AreFree, Event, Item, Slots, exchanges_of}
use Rattle.connections.specs.Rounds.{AreAskedIn, AreCallsOf, AreServedInRounds, Entry, Log, Logs, told_in}
use Rattle.connections.specs.SideBySide.{NoneWaits}
use Rattle.connections.specs.Turns.{AreSettled}
use Rattle.connections.proofs.RoundFacts.{logs_none}
use Rattle.connections.proofs.SettledFacts.{all_none}

-- free slots
pub free_slots : (count : ℕ) → AreFree (replicate count None)
free_slots count = λ slot connection at. all_none count slot connection at

settled_there : (slots : Slots) → AreFree slots → AreSettled slots
settled_there slots free = λ slot connection at. absurd (free slot connection at)

-- ---- where there was no round

none_comes : (before after : List Item) (item : Item) → [] ≡ before ++ item ∷ after → ⊥
none_comes [] after item split = cc
none_comes (x ∷ before) after item split = cc

nothing_asked : (rows : List CallerRow) → AreAskedIn rows [] []
nothing_asked rows = record {
  items = [];
  before = replicate 0 None;
  free = free_slots 0;
  after = replicate 0 None;
  shown = (refl, refl);
  own = λ slot before during after split stays. absurd (none_comes before (during ++ after) _ split);
  calls_are = refl;
}

pub nothing_called : (rows : List CallerRow) (log log_after : Log) (Failed : Type 0) → log_after ≡ log → AreCallsOf rows log log_after Failed []
nothing_called rows log log_after Failed same = record {
  rounds = [];
  logged = inl (subst (λ after. Logs log after []) (sym same) (logs_none log));
  asked = nothing_asked rows;
}

no_calls : (rows : List CallerRow) (events : List Event) (items : List Item) (t u : Slots) → events ≡ [] → NoneWaits rows t events items u
    → calls_of (exchanges_of items) ≡ []
no_calls rows [] items t u none h = ap (λ (l : List Item). calls_of (exchanges_of l)) h.0
no_calls rows (event ∷ events) items t u none h = absurd (cc)

-- ---- of what was served in rounds, from free slots on

module _ (Runs : Tables → List CallBy → Tables → Type 0) (this : Tables) (rounds : List Entry) (before after : Slots) (free : AreFree before)
    (served : AreServedInRounds Runs this rounds before after) where
  pub asked_in : AreAskedIn this.callers rounds (calls_of (exchanges_of served.side.items))
  asked_in = record {
    items = served.side.items;
    before = before;
    free = free;
    after = after;
    shown = served.shown (settled_there before free);
    own = served.side.own;
    calls_are = refl;
  }

  pub nothing_answered : told_in rounds ≡ [] → calls_of (exchanges_of served.side.items) ≡ []
  nothing_answered none = no_calls this.callers (told_in rounds) served.side.items before after none (served.side.waits (settled_there before free))
