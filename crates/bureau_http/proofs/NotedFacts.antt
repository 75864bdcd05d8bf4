-- What is noted of a request.
use Rattle.std.proofs.Common.{◌≡◌, ◌≢◌, ℕ, ◌-◌, ◌≤◌, Bool, true, false, if◌then◌else◌, nat_eq, ◌⊎◌, inl, inr, List, [], ◌++◌, ◌||◌, nat_le, length, drop, Option, Some, None, Ok, Err, refl, ap, ◌∙◌, subst, arith, length-append, length-drop}
use Rattle.std.specs.Io.KnownBytes.{Appends, prepend_known}
use Rattle.std.proofs.lemmas.Bool.Decides.{eqb_tells}
use Rattle.log_lines.specs.Words.{none}
use Rattle.log_lines.specs.declared.note.Note.{Note}
use Rattle.requests.specs.NextRequest.{IsNext, refused, whole}
use Rattle.requests.specs.Order.{is_bare}
use Rattle.requests.specs.Request.{Parts}
use Rattle.requests.specs.declared.refusal.Refusal.{Refusal}
use Rattle.bureau_store.specs.Tables.{Tables}
use Rattle.bureau.specs.Joint.{CallBy}
use Rattle.bureau.specs.declared.lack.Lack.{Lack}
use Rattle.bureau_http.specs.Asked.{What, has_token, most_requests, what_of}
use Rattle.bureau_http.specs.Connection.{IsLast, IsRequest}
use Rattle.bureau_http.specs.Exchange.{refusal_answer}
use Rattle.bureau_http.specs.Noted.{IsNoted, IsNotedAs, IsNotedOf, lack_word}
use Rattle.bureau_http.specs.Served.{ExchangedAs, IsExchanged, asked_as}
use Rattle.bureau_http.specs.Told.{IsTold, IsToldAs, answer_told, lack_told, told_text}
use Rattle.bureau_http.specs.declared.reply.Told.{Told}
use Rattle.bureau_http.specs.declared.reply.Told.TheVariants.{Answered, NoRoom, Refused}
use Rattle.bureau_http.proofs.ExchangeFacts.{has_exchanged, same_text}

-- what isn't answered 503 lacked nothing
lacks_none : (lack : Option Lack) (is : Bool) → is ≡ false → (if is then lack else None) ≡ None
lacks_none lack true is = cc
lacks_none lack false is = refl

none_lacked : (told : Told) → (answer_told told).status ≢ 503 → lack_told told ≡ None
none_lacked (Answered reply) other = by (eqb_tells reply.status 503)
  where
    by : ((nat_eq reply.status 503 ≡ true) × (reply.status ≡ 503)) ⊎ ((nat_eq reply.status 503 ≡ false) × (reply.status ≢ 503)) → lack_told (Answered reply) ≡ None
    by (inl is) = absurd (other is.1)
    by (inr is) = lacks_none reply.lack (nat_eq reply.status 503) is.0
none_lacked (Refused refusal) other = refl
none_lacked (NoRoom lack) other = absurd (other refl)

-- a note of what is told is one of the exchange
pub noted_as : (method path : List ℕ) (this next : Tables) (what : What) (has_token : Bool) (told : Told) (is_bare closes : Bool) (note : Note)
    → IsTold this what has_token told next → IsToldAs method path told is_bare closes note
    → IsNotedAs method path (asked_as what has_token is_bare closes (answer_told told)) note
noted_as method path this next what has_token told is_bare closes note is h = record {
  method = h.method;
  path = h.path;
  status = h.status;
  went = h.went ∙ ap length (same_text this next what has_token told is_bare closes is);
  lack = λ other. h.lack ∙ ap lack_word (none_lacked told other);
}

-- ---- a head that is refused

came_of : (came : ℕ) (held more bytes : List ℕ) → came ≡ length held → bytes ≡ held ++ more → came ≤ length bytes
came_of came held more bytes is are =
    let count = length-append held more in
    let all = ap length are in
    omega arith

pub refused_noted : (Runs : Tables → List CallBy → Tables → Type 0) (this : Tables) (ordinal : ℕ) (refusal : Refusal) (bare : Bool) (bytes held more : List ℕ) (old new : Option (List ℕ)) (note : Note)
    → Runs this [] this → IsNext bytes (refused refusal bare) → bytes ≡ held ++ more → Appends old new (told_text (Refused refusal) bare true)
    → note.caller ≡ none → IsToldAs [] [] (Refused refusal) bare true note → note.came ≡ length held
    → ExchangedAs Runs this (IsLast this.callers ordinal bytes) (Appends old new) bytes note
refused_noted Runs this ordinal refusal bare bytes held more old new note run next are written caller told came = (
  record {
    exchange = asked_as (Err refusal) false bare true (refusal_answer refusal);
    asked = (refused refusal bare, next, refl);
    has = has_exchanged Runs this this (Err refusal) false (Refused refusal) bare true (refl, refl) run;
    written = subst (Appends old new) (same_text this this (Err refusal) false (Refused refusal) bare true (refl, refl)) written;
  },
  (
    refused refusal bare,
    next,
    (
      caller,
      noted_as [] [] this this (Err refusal) false (Refused refusal) bare true note (refl, refl) told,
      came_of note.came held more bytes came are,
    ),
  ),
)

-- ---- a whole request

pub len_is : (len : ℕ) (held more bytes : List ℕ) → len ≤ length held → bytes ≡ held ++ more → len ≡ length bytes - length (drop len held ++ more)
len_is len held more bytes low are =
    let all = ap length are in
    let count = length-append held more in
    let rest = length-append (drop len held) more in
    let dropped = length-drop len held in
    omega arith

module _ (Runs : Tables → List CallBy → Tables → Type 0) (this : Tables) (ordinal : ℕ) (bytes : List ℕ) (parts : Parts) (body following : List ℕ) (old new : Option (List ℕ)) (note : Note) (len : ℕ)
    (next : IsNext bytes (whole parts body following)) (is_len : len ≡ length bytes - length following) where
  abbrev Done : Bool → Type 0
  Done ends = IsExchanged Runs this (what_of this.callers parts body) (has_token parts) (is_bare parts) ends (IsNotedOf this.callers parts len) old new (Ok note)

  noted : (ends : Bool) (done : Done ends) → IsNoted this.callers bytes (asked_as (what_of this.callers parts body) (has_token parts) (is_bare parts) ends done.told) note
  noted ends done = (
    whole parts body following,
    next,
    subst (λ n. IsNotedOf this.callers parts n (asked_as (what_of this.callers parts body) (has_token parts) (is_bare parts) ends done.told) note) is_len done.noted,
  )

  pub whole_last : true ≡ (parts.closes || nat_le most_requests ordinal) → Done true → ExchangedAs Runs this (IsLast this.callers ordinal bytes) (Appends old new) bytes note
  whole_last e done = (
    record {
      exchange = asked_as (what_of this.callers parts body) (has_token parts) (is_bare parts) true done.told;
      asked = (whole parts body following, next, (ap (λ b. record { what = what_of this.callers parts body; has_token = has_token parts; is_bare = is_bare parts; closes = b }) e, refl));
      has = done.has;
      written = done.written;
    },
    noted true done,
  )

  pub whole_stays : false ≡ (parts.closes || nat_le most_requests ordinal) → Done false
      → ExchangedAs Runs this (λ asked. IsRequest this.callers ordinal bytes asked following) (Appends old new) bytes note
  whole_stays e done = (
    record {
      exchange = asked_as (what_of this.callers parts body) (has_token parts) (is_bare parts) false done.told;
      asked = record {
        parts = parts;
        body = body;
        next = next;
        is = ap (λ b. record { what = what_of this.callers parts body; has_token = has_token parts; is_bare = is_bare parts; closes = b }) e;
        stays = refl;
      };
      has = done.has;
      written = done.written;
    },
    noted false done,
  )

-- what is left after it
pub left_after : (len : ℕ) (held rest more : List ℕ) (left : Option (List ℕ)) → rest ≡ drop len held → left ≡ Some more → prepend_known rest left ≡ Some (drop len held ++ more)
left_after len held rest more left are is = ap (λ l. prepend_known rest l) is ∙ ap (λ r. Some (r ++ more)) are

pub stays_with : (Runs : Tables → List CallBy → Tables → Type 0) (this : Tables) (ordinal : ℕ) (bytes following rest : List ℕ) (left old new : Option (List ℕ)) (note : Note)
    → prepend_known rest left ≡ Some following → ExchangedAs Runs this (λ asked. IsRequest this.callers ordinal bytes asked following) (Appends old new) bytes note
    → (after : List ℕ) × (prepend_known rest left ≡ Some after) × ExchangedAs Runs this (λ asked. IsRequest this.callers ordinal bytes asked after) (Appends old new) bytes note
stays_with Runs this ordinal bytes following rest left old new note is done = (following, is, done)
