-- A request with its answer, and the bytes of the reply.
use Rattle.std.specs.Prelude.{◌≡◌, ◌⊎◌, ℕ, ◌==◌, Bool, true, List, [], ◌∷◌, length, codes, Option, None, Ok, Err, if◌then◌else◌}
use Rattle.std.specs.List.{flat_map}
use Rattle.requests.specs.Refusal.{allow_of_refusal, status_of, text_of}
use Rattle.requests.specs.Reply.{reply_text}
use Rattle.requests.specs.Status.{code_of}
use Rattle.requests.specs.declared.refusal.Refusal.{Refusal}
use Rattle.requests.specs.declared.reply.ReplyHead.{ReplyHead}
use Rattle.requests.specs.declared.resource.Resource.{Resource}
use Rattle.requests.specs.declared.status.Status.{Status}
use Rattle.bureau.specs.Joint.{CallBy}
use Rattle.bureau.specs.Outcome.{Answer, no_room, plain}
use Rattle.bureau_http.specs.Asked.{Asked, What}

pub record Exchange : Type 0 where
  pub asked : Asked
  pub answer : Answer

-- ---- which answer

-- the answer to a request that isn't given to the bureau
abbrev pub refusal_answer : Refusal → Answer
refusal_answer refusal = plain (code_of (status_of refusal)) (text_of refusal)

-- The answer to a request that makes no call: the refusal; or 503 if a token has to be looked up, since there may be no room
-- for that. The run of the bureau decides how a call is answered.
abbrev pub IsAnsweredBy : What → Bool → Answer → Type 0
IsAnsweredBy (Ok call) has_token answer = Unit {0}
IsAnsweredBy (Err refusal) has_token answer = (answer ≡ refusal_answer refusal) ⊎ ((has_token ≡ true) × (answer ≡ no_room))

abbrev pub IsAnswered : Exchange → Type 0
IsAnswered exchange = IsAnsweredBy exchange.asked.what exchange.asked.has_token exchange.answer

-- the call that a request makes, with its answer, if it makes one
abbrev pub call_from : What → Answer → List CallBy
call_from (Ok call) answer = (record { caller = call.0; call = call.1; answer = answer }) ∷ []
call_from (Err refusal) answer = []

abbrev pub call_in : Exchange → List CallBy
call_in exchange = call_from exchange.asked.what exchange.answer

-- the calls that requests make, in order
abbrev pub calls_of : List Exchange → List CallBy
calls_of exchanges = flat_map call_in exchanges

-- ---- the bytes of the reply

-- the status of a number
abbrev pub status_numbered : ℕ → Status
status_numbered n =
    if n == 200 then Status.Success
    else if n == 400 then Status.BadRequest
    else if n == 401 then Status.Unauthorized
    else if n == 403 then Status.Forbidden
    else if n == 404 then Status.NotFound
    else if n == 405 then Status.MethodNotAllowed
    else if n == 409 then Status.Conflict
    else if n == 411 then Status.LengthRequired
    else if n == 413 then Status.PayloadTooLarge
    else if n == 422 then Status.UnprocessableEntity
    else if n == 431 then Status.HeadTooLarge
    else Status.ServiceUnavailable

-- the body; that of a 503 says that there is no room
abbrev pub body_told : Answer → List ℕ
body_told answer = if answer.status == 503 then codes "NO ROOM\n" else answer.body

-- the resource that the path names, if it has other methods
abbrev pub allow_by : What → ℕ → Option Resource
allow_by (Ok call) status = None
allow_by (Err refusal) status = if status == 503 then None else allow_of_refusal refusal

abbrev pub head_of : Exchange → ReplyHead
head_of exchange = record {
  status = status_numbered exchange.answer.status;
  is_json = exchange.answer.json;
  length = length (body_told exchange.answer);
  allow = allow_by exchange.asked.what exchange.answer.status;
  closes = exchange.asked.closes;
}

-- the reply: its head, and its body if more than the head is asked for
unfoldable pub exchange_text : Exchange → List ℕ
exchange_text exchange = reply_text (head_of exchange) exchange.asked.is_bare (body_told exchange.answer)

-- the replies, in order
abbrev pub replies_text : List Exchange → List ℕ
replies_text exchanges = flat_map exchange_text exchanges
