-- Serving a connection: the bureau's calls, and the bytes that are written. The contracts say what a run is here: one of the
-- tables alone, or one in which what is told as accepted is kept.
use Rattle.std.specs.Prelude.{◌≡◌, ◌⊎◌, ℕ, ◌+◌, Bool, List, [], ◌∷◌, ◌++◌, length, map, take, Option, Some, IfOk, Result, Ok, Err}
use Rattle.std.specs.Io.KnownBytes.{Appends, prepend_known}
use Rattle.std.specs.List.{AllByRecursion}
use Rattle.log_lines.specs.declared.note.Note.{Note}
use Rattle.transfer.specs.Transfer.{AppendsFront}
use Rattle.requests.specs.NextRequest.{IsNext, IsUnfinished, clean_end, end_inside}
use Rattle.bureau_store.specs.Tables.{Tables}
use Rattle.bureau_store.specs.declared.caller.CallerRow.{CallerRow}
use Rattle.bureau.specs.Joint.{CallBy}
use Rattle.bureau.specs.Outcome.{Answer}
use Rattle.bureau.specs.Repeat.{ActsOnce, StaysStale}
use Rattle.bureau_http.specs.Asked.{Asked, What}
use Rattle.bureau_http.specs.Connection.{IsConnection, IsLast, IsRequest, ReadsTo, Stop, clean, inside, closed, cut}
use Rattle.bureau_http.specs.Exchange.{Exchange, IsAnswered, call_in, calls_of, exchange_text, replies_text}
use Rattle.bureau_http.specs.Noted.{IsNoted}
use Rattle.bureau_http.specs.declared.fault.ConnFault.{ConnFault}
use Rattle.bureau_http.specs.declared.fault.ConnFault.TheVariants.{Read, Write, EndInside, Memory}
use Rattle.bureau_http.specs.declared.serving.Served.{Served}
use Rattle.bureau_http.specs.declared.serving.Step.{Step}
use Rattle.bureau_http.specs.declared.serving.Step.TheVariants as step

-- an exchange over these tables
pub record HasExchanged (Runs : Tables → List CallBy → Tables → Type 0) (this : Tables) (exchange : Exchange) : Type 0 where
  pub next : Tables
  pub answered : IsAnswered exchange
  pub run : Runs this (call_in exchange) next
  pub callers : next.callers ≡ this.callers

-- The calls of the desk are a run of the bureau from these tables, whatever it was asked.
pub record HasRun (Runs : Tables → List CallBy → Tables → Type 0) (this : Tables) : Type 0 where
  pub calls : List CallBy
  pub closing : Tables
  pub run : Runs this calls closing

-- the whole text was written, or a front part of it if a write failed
abbrev pub IsWritten : {A : Type 0} → Result A ConnFault → Option (List ℕ) → Option (List ℕ) → List ℕ → Type 0
IsWritten (Ok a) old new text = Appends old new text
IsWritten (Err Read) old new text = Appends old new text
IsWritten (Err Write) old new text = AppendsFront old new text
IsWritten (Err EndInside) old new text = Appends old new text
IsWritten (Err Memory) old new text = Appends old new text

-- ---- a whole connection

-- how a connection stops, by the answer of serving it
abbrev pub StopsBy : Result Served ConnFault → Stop → ℕ → Type 0
StopsBy (Ok served) stop count = ((stop ≡ clean) ⊎ (stop ≡ closed)) × (served.requests ≡ count)
StopsBy (Err Read) stop count = stop ≡ cut
StopsBy (Err Write) stop count = (stop ≡ cut) ⊎ (stop ≡ closed)
StopsBy (Err EndInside) stop count = stop ≡ inside
StopsBy (Err Memory) stop count = stop ≡ cut

-- The bytes that were read and those that are left to read are these. Those that were read have neither a whole request at
-- their front nor a head that is refused.
abbrev pub IsUnfinishedOf : List ℕ → Option (List ℕ) → List ℕ → Type 0
IsUnfinishedOf held left bytes = (prepend_known held left ≡ Some bytes) × IsUnfinished held

-- If a read failed or memory ran out, every request that had come whole was answered: no other whole request comes after the
-- last of them in what was read.
abbrev pub StopsUnfinished : Result Served ConnFault → Option (List ℕ) → List ℕ → Type 0
StopsUnfinished (Ok served) left following = Unit {0}
StopsUnfinished (Err Read) left following = (held : List ℕ) × IsUnfinishedOf held left following
StopsUnfinished (Err Write) left following = Unit {0}
StopsUnfinished (Err EndInside) left following = Unit {0}
StopsUnfinished (Err Memory) left following = (held : List ℕ) × IsUnfinishedOf held left following

-- If a write failed, the replies before the last one were written whole, and a front part of the last. No request after it
-- was served.
pub record IsCutOff (old new : Option (List ℕ)) (exchanges : List Exchange) : Type 0 where
  pub before : List Exchange
  pub last : Exchange
  pub are : exchanges ≡ before ++ last ∷ []
  pub count : ℕ
  pub written : Appends old new (replies_text before ++ take count (exchange_text last))

-- the replies were written, in order, as far as no write failed
abbrev pub AreWritten : Result Served ConnFault → Option (List ℕ) → Option (List ℕ) → List Exchange → Type 0
AreWritten (Ok served) old new exchanges = Appends old new (replies_text exchanges)
AreWritten (Err Read) old new exchanges = Appends old new (replies_text exchanges)
AreWritten (Err Write) old new exchanges = IsCutOff old new exchanges
AreWritten (Err EndInside) old new exchanges = Appends old new (replies_text exchanges)
AreWritten (Err Memory) old new exchanges = Appends old new (replies_text exchanges)

-- These calls are one run of the bureau from these tables, in which a change acts once, however often it is sent. The callers
-- stay.
pub record IsOneRun (Runs : Tables → List CallBy → Tables → Type 0) (this : Tables) (calls : List CallBy) : Type 0 where
  pub closing : Tables
  pub run : Runs this calls closing
  pub once : ActsOnce this calls closing
  pub stale : StaysStale this calls closing
  pub callers : closing.callers ≡ this.callers

-- These bytes of a connection are requests and a stop. They are answered so, and the replies were written, in order.
pub record AreExchanged (rows : List CallerRow) (left old new : Option (List ℕ)) (answer : Result Served ConnFault) (bytes : List ℕ) (exchanges : List Exchange) : Type 0 where
  pub answered : AllByRecursion IsAnswered exchanges
  pub stop : Stop
  pub connection : IsConnection rows bytes (map (λ exchange. exchange.asked) exchanges) stop
  pub stops : StopsBy answer stop (length exchanges)
  pub unfinished : StopsUnfinished answer left connection.following
  pub written : AreWritten answer old new exchanges

-- The bytes are requests and a stop. Those that make calls are a run of the bureau, in order, in which a change acts once,
-- however often it is sent. The bytes and the callers alone decide the answers to the others. The replies are written, in
-- order.
pub record IsServed (Runs : Tables → List CallBy → Tables → Type 0) (this : Tables) (left old new : Option (List ℕ)) (answer : Result Served ConnFault) (bytes : List ℕ) : Type 0 where
  pub exchanges : List Exchange
  pub ran : IsOneRun Runs this (calls_of exchanges)
  pub exchanged : AreExchanged this.callers left old new answer bytes exchanges

-- ---- a step of it, which `serve_next` promises

-- a request comes next, which may end the connection
abbrev pub IsAsked : List CallerRow → ℕ → List ℕ → Asked → Type 0
IsAsked rows ordinal bytes asked = IsLast rows ordinal bytes asked ⊎ ((following : List ℕ) × IsRequest rows ordinal bytes asked following)

pub record Exchanged (Runs : Tables → List CallBy → Tables → Type 0) (this : Tables) (IsNow : Asked → Type 0) (Writes : List ℕ → Type 0) : Type 0 where
  pub exchange : Exchange
  pub asked : IsNow exchange.asked
  pub has : HasExchanged Runs this exchange
  pub written : Writes (exchange_text exchange)

-- the same, with the note of the request that comes next in these bytes
abbrev pub ExchangedAs : (Tables → List CallBy → Tables → Type 0) → Tables → (Asked → Type 0) → (List ℕ → Type 0) → List ℕ → Note → Type 0
ExchangedAs Runs this IsNow Writes bytes note = (done : Exchanged Runs this IsNow Writes) × IsNoted this.callers bytes done.exchange note

-- Serving the next request: the bytes that were held and left to read began so, the calls of the desk are a run, and the
-- reply was written.
abbrev pub Serves : (Tables → List CallBy → Tables → Type 0) → Tables → ℕ → List ℕ → Option (List ℕ) → Option (List ℕ) → Option (List ℕ) → Result Step ConnFault → List ℕ → Type 0
Serves Runs this ordinal held left old new (Ok step.CleanEnd) bytes = IsNext bytes clean_end × Runs this [] this × Appends old new []
Serves Runs this ordinal held left old new (Ok (step.Stays note)) bytes =
    (following : List ℕ) × (prepend_known held left ≡ Some following)
    × ExchangedAs Runs this (λ asked. IsRequest this.callers ordinal bytes asked following) (Appends old new) bytes note
Serves Runs this ordinal held left old new (Ok (step.Ends note)) bytes = ExchangedAs Runs this (IsLast this.callers ordinal bytes) (Appends old new) bytes note
Serves Runs this ordinal held left old new (Err Read) bytes = Runs this [] this × Appends old new [] × IsUnfinishedOf held left bytes
Serves Runs this ordinal held left old new (Err Write) bytes = Exchanged Runs this (IsAsked this.callers ordinal bytes) (AppendsFront old new)
Serves Runs this ordinal held left old new (Err EndInside) bytes = IsNext bytes end_inside × Runs this [] this × Appends old new []
Serves Runs this ordinal held left old new (Err Memory) bytes = Runs this [] this × Appends old new [] × IsUnfinishedOf held left bytes

-- the connection goes on after it
abbrev pub Stays : Step → Type 0
Stays step.CleanEnd = ⊥
Stays (step.Stays note) = Unit {0}
Stays (step.Ends note) = ⊥

-- true if the input ended before a whole request came
abbrev pub IfEnded : Result Step ConnFault → Type 0 → Type 0
IfEnded (Ok step.CleanEnd) Fact = Fact
IfEnded (Ok (step.Stays note)) Fact = Unit {0}
IfEnded (Ok (step.Ends note)) Fact = Unit {0}
IfEnded (Err Read) Fact = Unit {0}
IfEnded (Err Write) Fact = Unit {0}
IfEnded (Err EndInside) Fact = Fact
IfEnded (Err Memory) Fact = Unit {0}

-- ---- private: what serving a whole request does, and what is so far

abbrev pub asked_as : What → Bool → Bool → Bool → Answer → Exchange
asked_as what has_token is_bare closes answer =
    record { asked = record { what = what; has_token = has_token; is_bare = is_bare; closes = closes }; answer = answer }

abbrev pub IsFailedWrite : {A : Type 0} → Result A ConnFault → Type 0
IsFailedWrite (Ok a) = Unit {0}
IsFailedWrite (Err fault) = fault ≡ Write

pub record IsExchanged (Runs : Tables → List CallBy → Tables → Type 0) (this : Tables) (what : What) (has_token is_bare closes : Bool) (IsSo : Exchange → Note → Type 0) (old new : Option (List ℕ)) (answer : Result Note ConnFault) : Type 0 where
  pub told : Answer
  pub has : HasExchanged Runs this (asked_as what has_token is_bare closes told)
  pub failed : IsFailedWrite answer
  pub noted : IfOk answer (IsSo (asked_as what has_token is_bare closes told))
  pub written : IsWritten answer old new (exchange_text (asked_as what has_token is_bare closes told))

-- the requests that were served so far, none of which ends the connection
pub record IsSoFar (Runs : Tables → List CallBy → Tables → Type 0) (this : Tables) (ordinal : ℕ) (left old new : Option (List ℕ)) (bytes : List ℕ) : Type 0 where
  pub exchanges : List Exchange
  pub now : Tables
  pub run : Runs this (calls_of exchanges) now
  pub callers : now.callers ≡ this.callers
  pub answered : AllByRecursion IsAnswered exchanges
  pub following : List ℕ
  pub reads : ReadsTo this.callers 1 bytes (map (λ exchange. exchange.asked) exchanges) following
  pub left_are : left ≡ Some following
  pub count : ordinal ≡ 1 + length exchanges
  pub written : Appends old new (replies_text exchanges)
