-- Isolation of connections: each caller is answered, to the byte, as if no other client were there.
use Rattle.std.specs.Prelude.{◌≡◌, ◌⊎◌, List, ◌∷◌, ◌++◌, Ok}
use Rattle.std.specs.List.{flat_map}
use Rattle.bureau_store.specs.Tables.{AreInOrder, Tables}
use Rattle.bureau_store.specs.declared.caller.Caller.{Caller}
use Rattle.bureau.specs.Alone.{IsAlone, opening_of, own_history}
use Rattle.bureau.specs.Call.{Call}
use Rattle.bureau.specs.Joint.{IsRun}
use Rattle.bureau.specs.Outcome.{no_room}
use Rattle.bureau.specs.Own.{own_answer}
use Rattle.bureau_http.specs.Exchange.{Exchange, calls_of, exchange_text}

-- the exchanges of all connections, in order
abbrev pub joined : List (List Exchange) → List Exchange
joined connections = flat_map (λ exchanges. exchanges) connections

-- a caller's request with the answer that it would have if only the caller's own history came before
abbrev pub own_exchange : Tables → Caller → Call → List Exchange → Exchange → Exchange
own_exchange opening viewer call before exchange = record {
  asked = exchange.asked;
  answer = own_answer (opening_of viewer opening) (own_history viewer (calls_of before)) viewer call;
}

-- at every point of a run, a caller's call is answered 503, or its reply has the bytes of the own answer
abbrev pub AreOwnBytes : Tables → List Exchange → Type 0
AreOwnBytes opening exchanges =
    (viewer : Caller) (call : Call) (before : List Exchange) (exchange : Exchange) (after : List Exchange) →
    exchanges ≡ before ++ exchange ∷ after → exchange.asked.what ≡ Ok (viewer, call) →
    (exchange.answer ≡ no_room) ⊎ (exchange_text exchange ≡ exchange_text (own_exchange opening viewer call before exchange))

-- Two runs: if a caller asks the same in both, after the same own history, the replies have the same bytes, unless one is
-- 503.
abbrev pub HaveSameBytes : Caller → List Exchange → List Exchange → Type 0
HaveSameBytes viewer exchanges others =
    (call : Call) (before : List Exchange) (exchange : Exchange) (after : List Exchange) (before2 : List Exchange) (exchange2 : Exchange) (after2 : List Exchange) →
    exchanges ≡ before ++ exchange ∷ after → others ≡ before2 ++ exchange2 ∷ after2 →
    exchange.asked.what ≡ Ok (viewer, call) → exchange.asked ≡ exchange2.asked →
    own_history viewer (calls_of before) ≡ own_history viewer (calls_of before2) →
    (exchange.answer ≡ no_room) ⊎ ((exchange2.answer ≡ no_room) ⊎ (exchange_text exchange ≡ exchange_text exchange2))

-- Each caller is answered as if alone, to the byte; and so in any other run that opens alike for the caller.
pub record AreIsolated (opening : Tables) (exchanges : List Exchange) : Type 0 where
  pub alone : (viewer : Caller) → IsAlone viewer (opening_of viewer opening) (calls_of exchanges)
  pub bytes : AreOwnBytes opening exchanges
  pub alike : (opening2 closing2 : Tables) (others : List Exchange) (viewer : Caller) → AreInOrder opening2 →
      IsRun opening2 (calls_of others) closing2 → opening_of viewer opening ≡ opening_of viewer opening2 → HaveSameBytes viewer exchanges others
