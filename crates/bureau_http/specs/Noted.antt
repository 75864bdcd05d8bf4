-- The log's note of a request: the facts of its head and of its answer, whatever the desk is and whoever writes the log.
use Rattle.std.specs.Prelude.{◌≡◌, ◌≢◌, ◌≤◌, ◌⊎◌, ℕ, ◌-◌, List, [], length, Option, Some, None}
use Rattle.log_lines.specs.Words.{none, word_of}
use Rattle.log_lines.specs.declared.note.Note.{Note}
use Rattle.requests.specs.NextRequest.{IsNext, Next, clean_end, end_inside, refused, whole}
use Rattle.requests.specs.Request.{Parts, path_of}
use Rattle.requests.specs.Status.{code_of}
use Rattle.bureau_store.specs.Caller.{name_text}
use Rattle.bureau_store.specs.declared.caller.Caller.{Caller}
use Rattle.bureau_store.specs.declared.caller.CallerRow.{CallerRow}
use Rattle.bureau.specs.Lack.{lack_name}
use Rattle.bureau.specs.Outcome.{Answer, no_room}
use Rattle.bureau.specs.declared.lack.Lack.{Lack}
use Rattle.bureau_http.specs.Asked.{caller_in}
use Rattle.bureau_http.specs.Exchange.{Exchange, exchange_text, status_numbered}

-- ---- who called

abbrev pub caller_word : Option Caller → List ℕ
caller_word None = none
caller_word (Some caller) = word_of (name_text caller)

-- the word for what a call lacked
abbrev pub lack_word : Option Lack → Option (List ℕ)
lack_word None = None
lack_word (Some lack) = Some (word_of (lack_name lack))

-- it is the caller whose token a request has; or there was no room to learn whose it is
abbrev pub IsKnown : List CallerRow → Parts → Answer → Option Caller → Type 0
IsKnown rows parts answer caller = (caller ≡ caller_in rows parts.token) ⊎ ((caller ≡ None) × (answer ≡ no_room))

-- ---- a note

-- the note of this method, this path, and the reply
pub record IsNotedAs (verb place : List ℕ) (exchange : Exchange) (note : Note) : Type 0 where
  pub method : note.method ≡ word_of verb
  pub path : note.path ≡ word_of place
  pub status : note.status ≡ code_of (status_numbered exchange.answer.status)
  pub went : note.went ≡ length (exchange_text exchange)
  -- only a 503 has a word for what lacked
  pub lack : exchange.answer.status ≢ 503 → note.lack ≡ None

-- the note of a whole request of so many bytes
pub record IsNotedOf (rows : List CallerRow) (parts : Parts) (len : ℕ) (exchange : Exchange) (note : Note) : Type 0 where
  pub known : Option Caller
  pub is_known : IsKnown rows parts exchange.answer known
  pub caller : note.caller ≡ caller_word known
  pub shown : IsNotedAs parts.method (path_of parts.target) exchange note
  pub came : note.came ≡ len

-- The note of what comes next in these bytes. Of a refused head it says only that it came, and the reply.
abbrev pub IsNotedBy : Next → List CallerRow → List ℕ → Exchange → Note → Type 0
IsNotedBy clean_end rows bytes exchange note = ⊥
IsNotedBy end_inside rows bytes exchange note = ⊥
IsNotedBy (refused refusal bare) rows bytes exchange note = (note.caller ≡ none) × IsNotedAs [] [] exchange note × (note.came ≤ length bytes)
IsNotedBy (whole parts body following) rows bytes exchange note = IsNotedOf rows parts (length bytes - length following) exchange note

abbrev pub IsNoted : List CallerRow → List ℕ → Exchange → Note → Type 0
IsNoted rows bytes exchange note = (next : Next) × IsNext bytes next × IsNotedBy next rows bytes exchange note
