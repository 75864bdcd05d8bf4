-- Each caller alone, over all runs: also one who came between two of them, or went.
use Rattle.std.specs.Prelude.{◌≡◌, ◌⊎◌, ℕ, true, false, List, [], ◌∷◌, ◌++◌}
use Rattle.bureau_store.specs.SetCallers.{has_name}
use Rattle.bureau_store.specs.Tables.{Tables}
use Rattle.bureau_store.specs.declared.caller.Caller.{Caller}
use Rattle.bureau_store.specs.declared.caller.Caller.TheVariants.{Publisher, Client}
use Rattle.bureau_store.specs.declared.caller.CallerRow.{CallerRow}
use Rattle.bureau.specs.Alone.{opening_of, own_history}
use Rattle.bureau.specs.Course.{Called, Callers, Stage, Stays, callers_after, calls_in, opening_of_newcomer}
use Rattle.bureau.specs.Joint.{CallBy}
use Rattle.bureau.specs.Outcome.{no_room}
use Rattle.bureau.specs.Own.{Asked, Opening, own_answer}
use Rattle.bureau_http.specs.Exchange.{Exchange, call_in, exchange_text}

-- A client came with callers that were set, and has stayed since. It found what is published and nothing of its own, whoever had its
-- name before. Its own calls count from then on, and those of the publisher from the beginning on.
pub record HasCome (viewer : Caller) (opening : Tables) (before : List Stage) (found : Opening) (history : List Asked) : Type 0 where
  pub name : List ℕ
  pub viewer_is : viewer ≡ Client name
  pub earlier : List Stage
  pub rows : List CallerRow
  pub since : List Stage
  pub are : before ≡ earlier ++ Callers rows ∷ since
  pub was_none : has_name (callers_after opening.callers earlier) name ≡ false
  pub is_one : has_name rows name ≡ true
  pub stays : Stays viewer rows since
  pub found_is : found ≡ opening_of_newcomer opening
  pub history_is : history ≡ own_history viewer (calls_in since) ++ own_history Publisher (calls_in earlier)

-- What a caller found as it began, and the calls that count for it since, after these stages. It has been there from the
-- beginning on, or it has come.
abbrev pub CountsFor : Caller → Tables → List Stage → Opening → List Asked → Type 0
CountsFor viewer opening before found history =
    (Stays viewer opening.callers before × (found ≡ opening_of viewer opening) × (history ≡ own_history viewer (calls_in before)))
    ⊎ HasCome viewer opening before found history

-- Each call of a course, before which the publisher stayed, was answered 503, or as it is if only what counts for its caller came.
abbrev pub IsAloneThroughout : Tables → List Stage → Type 0
IsAloneThroughout opening stages =
    (before : List Stage) (call_by : CallBy) (after : List Stage) (found : Opening) (history : List Asked) →
    stages ≡ before ++ Called call_by ∷ after → Stays Publisher opening.callers before → CountsFor call_by.caller opening before found history →
    (call_by.answer ≡ no_room) ⊎ (call_by.answer ≡ own_answer found history call_by.caller call_by.call)

-- And so are the bytes of the reply to each request that made such a call.
abbrev pub AreOwnReplies : Tables → List Stage → Type 0
AreOwnReplies opening stages =
    (before : List Stage) (exchange : Exchange) (call_by : CallBy) (after : List Stage) (found : Opening) (history : List Asked) →
    stages ≡ before ++ Called call_by ∷ after → call_in exchange ≡ call_by ∷ [] →
    Stays Publisher opening.callers before → CountsFor call_by.caller opening before found history →
    (exchange.answer ≡ no_room)
    ⊎ (exchange_text exchange ≡ exchange_text (record { asked = exchange.asked; answer = own_answer found history call_by.caller call_by.call }))
