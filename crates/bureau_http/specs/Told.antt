-- No part of what is promised: private contracts cite it. The answer to a request, between the bureau and what is written.
use Rattle.std.specs.Prelude.{◌≡◌, ℕ, Bool, true, if◌then◌else◌, nat_eq, List, length, Option, Some, None, Ok, Err}
use Rattle.log_lines.specs.Words.{word_of}
use Rattle.log_lines.specs.declared.note.Note.{Note}
use Rattle.requests.specs.Refusal.{allow_of_refusal}
use Rattle.requests.specs.Reply.{reply_text}
use Rattle.requests.specs.Status.{code_of}
use Rattle.requests.specs.declared.reply.ReplyHead.{ReplyHead}
use Rattle.requests.specs.declared.resource.Resource.{Resource}
use Rattle.bureau_store.specs.Tables.{Tables}
use Rattle.bureau_store.specs.declared.caller.Caller.{Caller}
use Rattle.bureau.specs.Call.{Call}
use Rattle.bureau.specs.Joint.{IsStep}
use Rattle.bureau.specs.Outcome.{Answer, no_room}
use Rattle.bureau.specs.Replies.{reply_as}
use Rattle.bureau.specs.declared.lack.Lack.{Lack}
use Rattle.bureau_http.specs.Asked.{What}
use Rattle.bureau_http.specs.Noted.{lack_word}
use Rattle.bureau_http.specs.Exchange.{body_told, refusal_answer, status_numbered}
use Rattle.bureau_http.specs.declared.reply.Told.{Told}
use Rattle.bureau_http.specs.declared.reply.Told.TheVariants.{Answered, Refused, NoRoom}

abbrev pub answer_told : Told → Answer
answer_told (Answered reply) = reply_as reply
answer_told (Refused refusal) = refusal_answer refusal
answer_told (NoRoom lack) = no_room

abbrev pub allow_told : Told → Option Resource
allow_told (Answered reply) = None
allow_told (Refused refusal) = allow_of_refusal refusal
allow_told (NoRoom lack) = None

-- what the call lacked, if the answer is 503
abbrev pub lack_told : Told → Option Lack
lack_told (Answered reply) = if nat_eq reply.status 503 then reply.lack else None
lack_told (Refused refusal) = None
lack_told (NoRoom lack) = Some lack

abbrev pub head_told : Told → Bool → ReplyHead
head_told told closes = record {
  status = status_numbered (answer_told told).status;
  is_json = (answer_told told).json;
  length = length (body_told (answer_told told));
  allow = allow_told told;
  closes = closes;
}

-- the bytes of the reply
unfoldable pub told_text : Told → Bool → Bool → List ℕ
told_text told is_bare closes = reply_text (head_told told closes) is_bare (body_told (answer_told told))

-- a note of this method, this path, and the reply
pub record IsToldAs (verb place : List ℕ) (told : Told) (is_bare closes : Bool) (note : Note) : Type 0 where
  pub method : note.method ≡ word_of verb
  pub path : note.path ≡ word_of place
  pub status : note.status ≡ code_of (status_numbered (answer_told told).status)
  pub went : note.went ≡ length (told_text told is_bare closes)
  pub lack : note.lack ≡ lack_word (lack_told told)

-- the answer is right for the question, and the tables are those after it
abbrev pub IsTold : Tables → What → Bool → Told → Tables → Type 0
IsTold this what has_token (Answered reply) next =
    (call : Caller × Call) × (what ≡ Ok call) × IsStep this (record { caller = call.0; call = call.1; answer = reply_as reply }) next
IsTold this what has_token (Refused refusal) next = (what ≡ Err refusal) × (next ≡ this)
IsTold this what has_token (NoRoom lack) next = (has_token ≡ true) × (next ≡ this)

-- an answer from a look-up of the token alone: none of the desk's, nor that there is no room
abbrev pub IsOfLookUp : Told → Type 0
IsOfLookUp (Answered reply) = ⊥
IsOfLookUp (Refused refusal) = Unit {0}
IsOfLookUp (NoRoom lack) = ⊥
