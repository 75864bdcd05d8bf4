-- What a request is told, as an exchange.
use Rattle.std.proofs.Common.{◌≡◌, inl, inr, Bool, List, Option, Ok, Err, refl, sym, ap, subst}
use Rattle.requests.specs.Refusal.{allow_of_refusal, status_of}
use Rattle.requests.specs.Reply.{reply_text}
use Rattle.requests.specs.Status.{code_of}
use Rattle.requests.specs.declared.refusal.Refusal.{Refusal}
use Rattle.requests.specs.declared.refusal.Refusal.TheVariants.{BadRequest, UnknownToken, NotFound, MethodNotAllowed, LengthRequired, TooLarge, HeadTooLarge}
use Rattle.requests.specs.declared.reply.ReplyHead.{ReplyHead}
use Rattle.requests.specs.declared.resource.Resource.{Resource}
use Rattle.bureau_store.specs.Tables.{Tables}
use Rattle.bureau_store.specs.declared.caller.Caller.{Caller}
use Rattle.bureau.specs.Joint.{CallBy, tables_left}
use Rattle.bureau.specs.Outcome.{Outcome, answered, accepted}
use Rattle.bureau.specs.Replies.{reply_as}
use Rattle.bureau.proofs.RunFacts.{step_callers}
use Rattle.bureau_http.specs.Asked.{What}
use Rattle.bureau_http.specs.Exchange.{IsAnsweredBy, allow_by, body_told, call_from, exchange_text, refusal_answer}
use Rattle.bureau_http.specs.Served.{HasExchanged, asked_as}
use Rattle.bureau_http.specs.Told.{IsTold, allow_told, answer_told, head_told, told_text}
use Rattle.bureau_http.specs.declared.reply.Told.{Told}
use Rattle.bureau_http.specs.declared.reply.Told.TheVariants.{Answered, Refused, NoRoom}

-- ---- the callers stay

outcome_keeps : (caller : Caller) (come : Outcome) (this : Tables) → (tables_left caller come this).callers ≡ this.callers
outcome_keeps caller (answered answer) this = refl
outcome_keeps caller (accepted effect text) this = refl

-- ---- which answer

pub answered_by : (this next : Tables) (what : What) (has_token : Bool) (told : Told) → IsTold this what has_token told next
    → IsAnsweredBy what has_token (answer_told told)
answered_by this next (Ok call) has_token told is = tt
answered_by this next (Err refusal) has_token (Answered reply) is = absurd (let e = is.1 in cc)
answered_by this next (Err refusal) has_token (Refused other) is =
    let e = is.0 in
    let same : other ≡ refusal = cc in inl (ap refusal_answer same)
answered_by this next (Err refusal) has_token (NoRoom lack) is = inr (is.0, refl)

pub callers_by : (this next : Tables) (what : What) (has_token : Bool) (told : Told) → IsTold this what has_token told next → next.callers ≡ this.callers
callers_by this next what has_token (Answered reply) is =
    step_callers this next (record { caller = is.0.0; call = is.0.1; answer = reply_as reply }) is.2
callers_by this next what has_token (Refused refusal) is = ap (λ t. t.callers) is.1
callers_by this next what has_token (NoRoom lack) is = ap (λ t. t.callers) is.1

-- a call that is told something has exchanged it
pub has_exchanged : (Runs : Tables → List CallBy → Tables → Type 0) (this next : Tables) (what : What) (has_token : Bool) (told : Told) (is_bare closes : Bool)
    → IsTold this what has_token told next → Runs this (call_from what (answer_told told)) next → HasExchanged Runs this (asked_as what has_token is_bare closes (answer_told told))
has_exchanged Runs this next what has_token told is_bare closes is run = record {
  next = next;
  answered = answered_by this next what has_token told is;
  run = run;
  callers = callers_by this next what has_token told is;
}

-- ---- the bytes of the reply

allow_refused : (refusal : Refusal) → allow_by (Err refusal) (code_of (status_of refusal)) ≡ allow_of_refusal refusal
allow_refused BadRequest = refl
allow_refused UnknownToken = refl
allow_refused NotFound = refl
allow_refused (MethodNotAllowed resource) = refl
allow_refused LengthRequired = refl
allow_refused TooLarge = refl
allow_refused HeadTooLarge = refl

allow_same : (this next : Tables) (what : What) (has_token : Bool) (told : Told) → IsTold this what has_token told next → allow_by what (answer_told told).status ≡ allow_told told
allow_same this next (Ok call) has_token (Answered reply) is = refl
allow_same this next (Ok call) has_token (Refused refusal) is = absurd (let e = is.0 in cc)
allow_same this next (Ok call) has_token (NoRoom lack) is = refl
allow_same this next (Err refusal) has_token (Answered reply) is = absurd (let e = is.1 in cc)
allow_same this next (Err refusal) has_token (Refused other) is =
    let e = is.0 in
    let same : other ≡ refusal = cc in
    subst (λ r. allow_by (Err refusal) (code_of (status_of r)) ≡ allow_of_refusal r) (sym same) (allow_refused refusal)
allow_same this next (Err refusal) has_token (NoRoom lack) is = refl

abbrev with_allow : Told → Bool → Option Resource → ReplyHead
with_allow told closes allow = record {
  status = (head_told told closes).status;
  is_json = (head_told told closes).is_json;
  length = (head_told told closes).length;
  allow = allow;
  closes = closes;
}

-- the reply to a request is what it is told
pub same_text : (this next : Tables) (what : What) (has_token : Bool) (told : Told) (is_bare closes : Bool) → IsTold this what has_token told next
    → told_text told is_bare closes ≡ exchange_text (asked_as what has_token is_bare closes (answer_told told))
unfolding told_text exchange_text
same_text this next what has_token told is_bare closes is =
    ap (λ allow. reply_text (with_allow told closes allow) is_bare (body_told (answer_told told))) (sym (allow_same this next what has_token told is))
