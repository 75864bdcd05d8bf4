-- From a run in which each caller is answered as if alone to the bytes of the replies.
use Rattle.std.proofs.Common.{◌≡◌, ◌⊎◌, inl, inr, List, [], ◌∷◌, ◌++◌, Ok, refl, sym, ap, ◌∙◌}
use Rattle.std.proofs.lemmas.Grind.{flat_map-append}
use Rattle.bureau_store.specs.Tables.{AreInOrder, Tables}
use Rattle.bureau_store.specs.declared.caller.Caller.{Caller}
use Rattle.bureau.specs.Alone.{AreAnsweredAlike, IsAlone, opening_of}
use Rattle.bureau.specs.Call.{Call}
use Rattle.bureau.specs.Joint.{CallBy, IsRun}
use Rattle.bureau.specs.Kept.{TellNothing}
use Rattle.bureau.specs.Outcome.{Answer}
use Rattle.bureau.proofs.SilentFacts.{silent_alike, silent_alone}
use Rattle.bureau_http.specs.Asked.{Asked}
use Rattle.bureau_http.specs.Exchange.{Exchange, call_from, call_in, calls_of, exchange_text}
use Rattle.bureau_http.specs.Isolated.{AreIsolated, AreOwnBytes, HaveSameBytes, joined, own_exchange}
use Rattle.bureau_http.specs.List.{calls_in}

abbrev pub Alone : Type 0
Alone = (opening closing : Tables) (calls : List CallBy) (viewer : Caller) → AreInOrder opening → IsRun opening calls closing → IsAlone viewer (opening_of viewer opening) calls

abbrev pub Alike : Type 0
Alike = (opening closing opening2 closing2 : Tables) (calls calls2 : List CallBy) (viewer : Caller) → AreInOrder opening → AreInOrder opening2 →
    IsRun opening calls closing → IsRun opening2 calls2 closing2 → opening_of viewer opening ≡ opening_of viewer opening2 → AreAnsweredAlike viewer calls calls2

-- ---- the calls of joined exchanges

pub calls_joined : (connections : List (List Exchange)) → calls_of (joined connections) ≡ calls_in connections
calls_joined [] = refl
calls_joined (exchanges ∷ more) =
    flat_map-append call_in exchanges (joined more) ∙ ap (λ l. calls_of exchanges ++ l) (calls_joined more)

pub calls_with_hand : (connections : List (List Exchange)) (hand : List Exchange) → calls_of (joined connections ++ hand) ≡ calls_in connections ++ calls_of hand
calls_with_hand connections hand =
    flat_map-append call_in (joined connections) hand ∙ ap (λ l. l ++ calls_of hand) (calls_joined connections)

-- ---- a caller's call, where it stands among the calls

abbrev call_at : Caller → Call → Exchange → CallBy
call_at viewer call exchange = record { caller = viewer; call = call; answer = exchange.answer }

calls_at : (viewer : Caller) (call : Call) (exchanges before : List Exchange) (exchange : Exchange) (after : List Exchange) → exchanges ≡ before ++ exchange ∷ after
    → exchange.asked.what ≡ Ok (viewer, call) → calls_of exchanges ≡ calls_of before ++ call_at viewer call exchange ∷ calls_of after
calls_at viewer call exchanges before exchange after split is =
    ap calls_of split ∙ flat_map-append call_in before (exchange ∷ after)
    ∙ ap (λ what. calls_of before ++ (call_from what exchange.answer ++ calls_of after)) is

same_bytes : (asked : Asked) (a b : Answer) → a ≡ b → exchange_text (record { asked = asked; answer = a }) ≡ exchange_text (record { asked = asked; answer = b })
same_bytes asked a b e = ap (λ answer. exchange_text (record { asked = asked; answer = answer })) e

-- ---- the bytes

own_bytes : (opening : Tables) (exchanges : List Exchange) → ((viewer : Caller) → IsAlone viewer (opening_of viewer opening) (calls_of exchanges))
    → AreOwnBytes opening exchanges
own_bytes opening exchanges alone viewer call before exchange after split is =
    elim (alone viewer (calls_of before) (call_at viewer call exchange) (calls_of after) (calls_at viewer call exchanges before exchange after split is) refl) [
      | inl none ↦ inl none
      | inr own ↦ inr (same_bytes exchange.asked exchange.answer (own_exchange opening viewer call before exchange).answer own)
    ]

bytes_alike : (viewer : Caller) (exchanges others : List Exchange) → AreAnsweredAlike viewer (calls_of exchanges) (calls_of others) → HaveSameBytes viewer exchanges others
bytes_alike viewer exchanges others alike call before exchange after before2 exchange2 after2 split split2 is same history =
    let is2 : exchange2.asked.what ≡ Ok (viewer, call) = ap (λ asked. asked.what) (sym same) ∙ is in
    elim (alike (calls_of before) (call_at viewer call exchange) (calls_of after) (calls_of before2) (call_at viewer call exchange2) (calls_of after2)
    (calls_at viewer call exchanges before exchange after split is) (calls_at viewer call others before2 exchange2 after2 split2 is2) refl refl refl history) [
      | inl none ↦ inl none
      | inr told ↦ inr (elim told [
        | inl none ↦ inl none
        | inr equal ↦ inr (same_bytes exchange.asked exchange.answer exchange2.answer equal
            ∙ ap (λ asked. exchange_text (record { asked = asked; answer = exchange2.answer })) same)
      ])
    ]

pub isolated : (opening closing : Tables) (exchanges : List Exchange) → Alone → Alike → AreInOrder opening → IsRun opening (calls_of exchanges) closing
    → AreIsolated opening exchanges
isolated opening closing exchanges alone alike in_order run = record {
  alone = λ viewer. alone opening closing (calls_of exchanges) viewer in_order run;
  bytes = own_bytes opening exchanges (λ viewer. alone opening closing (calls_of exchanges) viewer in_order run);
  alike = λ opening2 closing2 others viewer in_order2 run2 same.
      bytes_alike viewer exchanges others (alike opening closing opening2 closing2 (calls_of exchanges) (calls_of others) viewer in_order in_order2 run run2 same);
}

-- Nothing is told from tables that may be in no order.
abbrev pub IsKnown : (Tables → List CallBy → Tables → Type 0) → Tables → Type 0
IsKnown Runs this = (calls : List CallBy) (next : Tables) → Runs this calls next → AreInOrder this ⊎ TellNothing calls

-- so each caller is answered as if alone, whatever the tables are
pub isolated_so : (opening closing : Tables) (exchanges : List Exchange) → Alone → Alike → AreInOrder opening ⊎ TellNothing (calls_of exchanges)
    → IsRun opening (calls_of exchanges) closing → AreIsolated opening exchanges
isolated_so opening closing exchanges alone alike (inl in_order) run = isolated opening closing exchanges alone alike in_order run
isolated_so opening closing exchanges alone alike (inr silent) run = record {
  alone = λ viewer. silent_alone opening closing (calls_of exchanges) viewer (opening_of viewer opening) silent run;
  bytes = own_bytes opening exchanges (λ viewer. silent_alone opening closing (calls_of exchanges) viewer (opening_of viewer opening) silent run);
  alike = λ opening2 closing2 others viewer in_order2 run2 same.
      bytes_alike viewer exchanges others (silent_alike opening closing opening2 closing2 (calls_of exchanges) (calls_of others) viewer silent run run2);
}
