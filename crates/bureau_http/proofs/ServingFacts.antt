-- How a connection is served, request by request.
use Rattle.std.proofs.Common.{◌≡◌, ◌⊎◌, inl, inr, take, ℕ, ◌+◌, Bool, true, false, List, [], ◌∷◌, ◌++◌, ◌||◌, nat_le, length, map, Option, Some, None, Result, Ok, Err, IfErr, IfSome, OnOk, refl, sym, ap, ◌∙◌, subst, arith, append-nil, length-append}
use Rattle.std.proofs.KnownBytes.{Appends-nil, Appends-trans}
use Rattle.std.proofs.lemmas.Grind.{flat_map-append}
use Rattle.std.proofs.lemmas.List.{length-map, map-append}
use Rattle.std.specs.Io.KnownBytes.{Appends, Keeps, prepend_known}
use Rattle.std.specs.List.{AllByRecursion}
use Rattle.lemmas.proofs.ResultFacts.{if_some}
use Rattle.log_lines.specs.declared.note.Note.{Note}
use Rattle.transfer.specs.Transfer.{AppendsFront}
use Rattle.transfer.specs.declared.fault.TransferFault.{TransferFault}
use Rattle.transfer.specs.declared.fault.TransferFault.TheVariants as transfer
use Rattle.requests.specs.HeadEnd.{head_limit}
use Rattle.requests.specs.Order.{is_bare}
use Rattle.requests.specs.Request.{Parts}
use Rattle.requests.specs.NextRequest.{IsNext, IsUnfinished, refused, whole}
use Rattle.requests.specs.declared.refusal.Refusal.{Refusal}
use Rattle.bureau_store.specs.Tables.{Tables}
use Rattle.bureau_store.specs.declared.caller.CallerRow.{CallerRow}
use Rattle.bureau.specs.Joint.{CallBy}
use Rattle.bureau.specs.Outcome.{Answer}
use Rattle.bureau.specs.Repeat.{ActsOnce, StaysStale}
use Rattle.bureau_http.specs.Asked.{Asked, has_token, most_requests, what_of}
use Rattle.bureau_http.specs.Connection.{IsConnection, IsLast, IsRequest, ReadsTo, Stop, StopsAt, clean, inside, closed, cut}
use Rattle.bureau_http.specs.Exchange.{Exchange, IsAnswered, call_in, calls_of, exchange_text, refusal_answer, replies_text}
use Rattle.bureau_http.specs.declared.serving.Served.{Served}
use Rattle.bureau_http.specs.declared.serving.Step.TheVariants as step
use Rattle.bureau_http.specs.Served.{AreWritten, IfEnded, IsAsked, IsCutOff, StopsBy, Exchanged, HasExchanged, HasRun, asked_as, IsExchanged, IsFailedWrite, IsOneRun, IsServed, IsSoFar, IsUnfinishedOf, IsWritten, Serves, StopsUnfinished}
use Rattle.bureau_http.specs.Told.{told_text}
use Rattle.bureau_http.specs.declared.reply.Told.TheVariants.{Refused}
use Rattle.bureau_http.proofs.ExchangeFacts.{has_exchanged, same_text}
use Rattle.bureau_http.specs.ConnFault.{of_transfer}
use Rattle.bureau_http.specs.declared.fault.ConnFault.{ConnFault}
use Rattle.bureau_http.specs.declared.fault.ConnFault.TheVariants.{Read, Write, EndInside, Memory}

pub failed_as : {A : Type 0} (P : ConnFault → Type 0) (r : Result A ConnFault) → IfErr r (λ fault. (fault ≡ Write) × P fault) → IsFailedWrite r
failed_as P (Ok a) h = tt
failed_as P (Err fault) h = h.0

front_as : (A : Type 0) (fault : ConnFault) (old new : Option (List ℕ)) (text : List ℕ) → fault ≡ Write → AppendsFront old new text
    → IsWritten {A = A} (Err fault) old new text
front_as A fault old new text e front = subst (λ f. IsWritten {A = A} (Err f) old new text) (sym e) front

pub written_as : {A : Type 0} (r : Result A ConnFault) (old new : Option (List ℕ)) (text : List ℕ) → OnOk r (Appends old new text)
    → IfErr r (λ fault. (fault ≡ Write) × AppendsFront old new text) → IsWritten r old new text
written_as (Ok a) old new text ok err = ok
written_as {A} (Err fault) old new text ok err = front_as A fault old new text err.0 err.1

-- ---- one more

-- one run after another makes a run
abbrev pub Join : (First Then Whole : Tables → List CallBy → Tables → Type 0) → Type 0
Join First Then Whole = (this mid next : Tables) (xs ys : List CallBy) → First this xs mid → Then mid ys next → Whole this (xs ++ ys) next

pub all_on : (P : Exchange → Type 0) (xs ys : List Exchange) → AllByRecursion P xs → AllByRecursion P ys → AllByRecursion P (xs ++ ys)
all_on P [] ys h k = k
all_on P (x ∷ xs) ys h k = (h.0, all_on P xs ys h.1 k)

pub reads_on : (rows : List CallerRow) (ordinal : ℕ) (bytes : List ℕ) (first : List Asked) (following : List ℕ) (asked : Asked) (rest : List ℕ)
    → ReadsTo rows ordinal bytes first following → IsRequest rows (ordinal + length first) following asked rest
    → ReadsTo rows ordinal bytes (first ++ asked ∷ []) rest
reads_on rows ordinal bytes [] following asked rest h k =
    let at : ordinal + 0 ≡ ordinal = omega arith in
    (rest, subst (λ p. IsRequest rows p bytes asked rest) at (subst (λ b. IsRequest rows (ordinal + 0) b asked rest) h k), refl)
reads_on rows ordinal bytes (x ∷ xs) following asked rest h k =
    let at : ordinal + length (x ∷ xs) ≡ (ordinal + 1) + length xs = omega arith in
    (h.0, h.1, reads_on rows (ordinal + 1) h.0 xs following asked rest h.2 (subst (λ p. IsRequest rows p following asked rest) at k))

calls_more : (exchanges : List Exchange) (exchange : Exchange) → calls_of (exchanges ++ exchange ∷ []) ≡ calls_of exchanges ++ call_in exchange
calls_more exchanges exchange =
    flat_map-append call_in exchanges (exchange ∷ []) ∙ ap (λ l. calls_of exchanges ++ l) (append-nil (call_in exchange))

pub text_more : (exchanges : List Exchange) (exchange : Exchange) → replies_text (exchanges ++ exchange ∷ []) ≡ replies_text exchanges ++ exchange_text exchange
text_more exchanges exchange =
    flat_map-append exchange_text exchanges (exchange ∷ []) ∙ ap (λ l. replies_text exchanges ++ l) (append-nil (exchange_text exchange))

abbrev asked_in : Exchange → Asked
asked_in exchange = exchange.asked

asked_more : (exchanges : List Exchange) (exchange : Exchange) → map asked_in (exchanges ++ exchange ∷ []) ≡ map asked_in exchanges ++ exchange.asked ∷ []
asked_more exchanges exchange = map-append asked_in exchanges (exchange ∷ [])

-- the ordinal of the next request
at_place : (ordinal : ℕ) (exchanges : List Exchange) → ordinal ≡ 1 + length exchanges → ordinal ≡ 1 + length (map asked_in exchanges)
at_place ordinal exchanges e = let same : length (map asked_in exchanges) ≡ length exchanges = length-map exchanges asked_in in omega arith

-- what is told of the callers now, at this ordinal, is told of the callers
here : (P : List CallerRow → ℕ → Type 0) (this now : Tables) (ordinal : ℕ) (exchanges : List Exchange) → now.callers ≡ this.callers
    → ordinal ≡ 1 + length exchanges → P now.callers ordinal → P this.callers (1 + length (map asked_in exchanges))
here P this now ordinal exchanges same count p =
    subst (λ n. P this.callers n) (at_place ordinal exchanges count) (subst (λ rows. P rows ordinal) same p)

pub more_count : (exchanges : List Exchange) (exchange : Exchange) → length (exchanges ++ exchange ∷ []) ≡ 1 + length exchanges
more_count exchanges exchange = let e = length-append exchanges (exchange ∷ []) in omega arith

run_more : (First Then Whole : Tables → List CallBy → Tables → Type 0) → Join First Then Whole → (this now next : Tables) (exchanges : List Exchange) (exchange : Exchange)
    → First this (calls_of exchanges) now → Then now (call_in exchange) next → Whole this (calls_of (exchanges ++ exchange ∷ [])) next
run_more First Then Whole join this now next exchanges exchange first then =
    subst (λ ts. Whole this ts next) (sym (calls_more exchanges exchange)) (join this now next (calls_of exchanges) (call_in exchange) first then)

run_same : (First Then Whole : Tables → List CallBy → Tables → Type 0) → Join First Then Whole → (this now : Tables) (calls : List CallBy)
    → First this calls now → Then now [] now → Whole this calls now
run_same First Then Whole join this now calls first none = subst (λ ts. Whole this ts now) (append-nil calls) (join this now now calls [] first none)

-- in such a run a change acts once
abbrev pub ActOnce : (Tables → List CallBy → Tables → Type 0) → Type 0
ActOnce Runs = (this next : Tables) (calls : List CallBy) → Runs this calls next → ActsOnce this calls next × StaysStale this calls next

pub one_run : (Runs : Tables → List CallBy → Tables → Type 0) → ActOnce Runs → (this next : Tables) (calls : List CallBy) → Runs this calls next
    → next.callers ≡ this.callers → IsOneRun Runs this calls
one_run Runs once this next calls run callers =
    let repeats = once this next calls run in
    record { closing = next; run = run; once = repeats.0; stale = repeats.1; callers = callers }

-- one run, of which something else is known
pub same_run : (Runs Other : Tables → List CallBy → Tables → Type 0) (this : Tables) (calls : List CallBy) → ((next : Tables) → Runs this calls next → Other this calls next)
    → IsOneRun Runs this calls → IsOneRun Other this calls
same_run Runs Other this calls also ran =
    record { closing = ran.closing; run = also ran.closing ran.run; once = ran.once; stale = ran.stale; callers = ran.callers }

-- ---- the loop

module _ (First Then Whole : Tables → List CallBy → Tables → Type 0) (join : Join First Then Whole) (once : ActOnce Whole) (this : Tables) (ordinal : ℕ) (rest left old mid new : Option (List ℕ)) (bytes : List ℕ)
    (so : IsSoFar First this ordinal left old mid bytes) where
  reads_more : (exchange : Exchange) (following : List ℕ) → IsRequest so.now.callers ordinal so.following exchange.asked following
      → ReadsTo this.callers 1 bytes (map asked_in (so.exchanges ++ exchange ∷ [])) following
  reads_more exchange following is =
      subst (λ l. ReadsTo this.callers 1 bytes l following) (sym (asked_more so.exchanges exchange))
      (reads_on this.callers 1 bytes (map asked_in so.exchanges) so.following exchange.asked following so.reads
      (here (λ rows p. IsRequest rows p so.following exchange.asked following) this so.now ordinal so.exchanges so.callers so.count is))

  written_more : (exchange : Exchange) → Appends mid new (exchange_text exchange) → Appends old new (replies_text (so.exchanges ++ exchange ∷ []))
  written_more exchange written =
      subst (Appends old new) (sym (text_more so.exchanges exchange)) (Appends-trans old mid new (replies_text so.exchanges) (exchange_text exchange) so.written written)

  written_none : Appends mid new [] → Appends old new (replies_text so.exchanges)
  written_none none =
      subst (Appends old new) (append-nil (replies_text so.exchanges)) (Appends-trans old mid new (replies_text so.exchanges) [] so.written none)

  pub stays : (following : List ℕ) (left1 : Option (List ℕ)) → left1 ≡ Some following
      → Exchanged Then so.now (λ asked. IsRequest so.now.callers ordinal so.following asked following) (Appends mid new)
      → IsSoFar Whole this (ordinal + 1) left1 old new bytes
  stays following left1 left_are done = record {
    exchanges = so.exchanges ++ done.exchange ∷ [];
    now = done.has.next;
    run = run_more First Then Whole join this so.now done.has.next so.exchanges done.exchange so.run done.has.run;
    callers = done.has.callers ∙ so.callers;
    answered = all_on IsAnswered so.exchanges (done.exchange ∷ []) so.answered (done.has.answered, tt);
    following = following;
    reads = reads_more done.exchange following done.asked;
    left_are = left_are;
    count = let e = more_count so.exchanges done.exchange in let at = so.count in omega arith;
    written = written_more done.exchange done.written;
  }

  -- the connection with no request more
  connection_here : (stop : Stop) → StopsAt stop this.callers (1 + length (map asked_in so.exchanges)) so.following []
      → IsConnection this.callers bytes (map asked_in so.exchanges) stop
  connection_here stop stops = record {
    first = map asked_in so.exchanges;
    last = [];
    following = so.following;
    reads = so.reads;
    stops = stops;
    all = sym (append-nil (map asked_in so.exchanges));
  }

  -- the connection with a last request
  connection_last : (exchange : Exchange) → IsLast so.now.callers ordinal so.following exchange.asked
      → IsConnection this.callers bytes (map asked_in (so.exchanges ++ exchange ∷ [])) closed
  connection_last exchange is = record {
    first = map asked_in so.exchanges;
    last = exchange.asked ∷ [];
    following = so.following;
    reads = so.reads;
    stops = (exchange.asked, refl, here (λ rows p. IsLast rows p so.following exchange.asked) this so.now ordinal so.exchanges so.callers so.count is);
    all = asked_more so.exchanges exchange;
  }

  -- the connection that is cut after a request
  connection_cut : (exchange : Exchange) (following : List ℕ) → IsRequest so.now.callers ordinal so.following exchange.asked following
      → IsConnection this.callers bytes (map asked_in (so.exchanges ++ exchange ∷ [])) cut
  connection_cut exchange following is = record {
    first = map asked_in (so.exchanges ++ exchange ∷ []);
    last = [];
    following = following;
    reads = reads_more exchange following is;
    stops = refl;
    all = sym (append-nil (map asked_in (so.exchanges ++ exchange ∷ [])));
  }

  without : (answer : Result Served ConnFault) (stop : Stop) → Then so.now [] so.now → StopsAt stop this.callers (1 + length (map asked_in so.exchanges)) so.following []
      → StopsUnfinished answer rest so.following
      → StopsBy answer stop (length so.exchanges) → AreWritten answer old new so.exchanges → IsServed Whole this rest old new answer bytes
  unfolding connection_here
  without answer stop run stops unfinished by written =
      let ran = run_same First Then Whole join this so.now (calls_of so.exchanges) so.run run in record {
        exchanges = so.exchanges;
        ran = one_run Whole once this so.now (calls_of so.exchanges) ran so.callers;
        exchanged = record {
          answered = so.answered;
          stop = stop;
          connection = connection_here stop stops;
          stops = by;
          unfinished = unfinished;
          written = written;
        };
      }

  with_one : (answer : Result Served ConnFault) (stop : Stop) (exchange : Exchange) → ((following : List ℕ) → StopsUnfinished answer rest following) → HasExchanged Then so.now exchange
      → IsConnection this.callers bytes (map asked_in (so.exchanges ++ exchange ∷ [])) stop
      → StopsBy answer stop (length (so.exchanges ++ exchange ∷ [])) → AreWritten answer old new (so.exchanges ++ exchange ∷ [])
      → IsServed Whole this rest old new answer bytes
  with_one answer stop exchange unfinished has connection by written =
      let ran = run_more First Then Whole join this so.now has.next so.exchanges exchange so.run has.run in
      record {
        exchanges = so.exchanges ++ exchange ∷ [];
        ran = one_run Whole once this has.next (calls_of (so.exchanges ++ exchange ∷ [])) ran (has.callers ∙ so.callers);
        exchanged = record {
          answered = all_on IsAnswered so.exchanges (exchange ∷ []) so.answered (has.answered, tt);
          stop = stop;
          connection = connection;
          stops = by;
          unfinished = unfinished connection.following;
          written = written;
        };
      }

-- a last exchange, or none, by what serving the next request answers
module _ (First Then Whole : Tables → List CallBy → Tables → Type 0) (join : Join First Then Whole) (once : ActOnce Whole) (this : Tables) (ordinal : ℕ) (held : List ℕ) (rest left old mid new : Option (List ℕ)) (bytes : List ℕ)
    (so : IsSoFar First this ordinal left old mid bytes) where
  last_of : (exchange : Exchange) → IsAsked so.now.callers ordinal so.following exchange.asked
      → (stop : Stop) × ((stop ≡ cut) ⊎ (stop ≡ closed)) × IsConnection this.callers bytes (map asked_in (so.exchanges ++ exchange ∷ [])) stop
  last_of exchange (inl is) = (closed, inr refl, connection_last First Then Whole join once this ordinal rest left old mid new bytes so exchange is)
  last_of exchange (inr is) = (cut, inl refl, connection_cut First Then Whole join once this ordinal rest left old mid new bytes so exchange is.0 is.1)

  cut_off : (exchange : Exchange) → AppendsFront mid new (exchange_text exchange) → IsCutOff old new (so.exchanges ++ exchange ∷ [])
  cut_off exchange front = record {
    before = so.exchanges;
    last = exchange;
    are = refl;
    count = front.0;
    written = Appends-trans old mid new (replies_text so.exchanges) (take front.0 (exchange_text exchange)) so.written front.1;
  }

  pub served_err : (fault : ConnFault) → Serves Then so.now ordinal held rest mid new (Err fault) so.following → IsServed Whole this rest old new (Err fault) bytes
  served_err Read is =
      without First Then Whole join once this ordinal rest left old mid new bytes so (Err Read) cut is.0 refl (held, is.2) refl
      (written_none First Then Whole join once this ordinal rest left old mid new bytes so is.1)
  served_err Write is =
      let last = last_of is.exchange is.asked in
      with_one First Then Whole join once this ordinal rest left old mid new bytes so (Err Write) last.0 is.exchange (λ following. tt) is.has last.2 last.1 (cut_off is.exchange is.written)
  served_err EndInside is =
      without First Then Whole join once this ordinal rest left old mid new bytes so (Err EndInside) inside is.1 (refl, is.0) tt refl
      (written_none First Then Whole join once this ordinal rest left old mid new bytes so is.2)
  served_err Memory is =
      without First Then Whole join once this ordinal rest left old mid new bytes so (Err Memory) cut is.0 refl (held, is.2) refl
      (written_none First Then Whole join once this ordinal rest left old mid new bytes so is.1)

  pub served_end : (count : ℕ) → 1 + count ≡ ordinal → Serves Then so.now ordinal held rest mid new (Ok step.CleanEnd) so.following
      → IsServed Whole this rest old new (Ok (record { requests = count })) bytes
  served_end count e is =
      let at = so.count in
      without First Then Whole join once this ordinal rest left old mid new bytes so (Ok (record { requests = count })) clean is.1 (refl, is.0) tt (inl refl, omega arith)
      (written_none First Then Whole join once this ordinal rest left old mid new bytes so is.2)

  pub served_last : (note : Note) → Serves Then so.now ordinal held rest mid new (Ok (step.Ends note)) so.following
      → IsServed Whole this rest old new (Ok (record { requests = ordinal })) bytes
  served_last note is =
      let at = so.count in
      let done = is.0 in
      let e = more_count so.exchanges done.exchange in
      with_one First Then Whole join once this ordinal rest left old mid new bytes so (Ok (record { requests = ordinal })) closed done.exchange (λ following. tt) done.has
      (connection_last First Then Whole join once this ordinal rest left old mid new bytes so done.exchange done.asked) (inr refl, omega arith)
      (written_more First Then Whole join once this ordinal rest left old mid new bytes so done.exchange done.written)

-- nothing is served
pub nothing_served : (Runs : Tables → List CallBy → Tables → Type 0) → ActOnce Runs → (this : Tables) (left kept : Option (List ℕ)) (bytes : List ℕ) → Runs this [] this → left ≡ Some bytes
    → IsServed Runs this left kept kept (Err Memory) bytes
unfolding head_limit
nothing_served Runs once this left kept bytes run is_left = record {
  exchanges = [];
  ran = one_run Runs once this this [] run refl;
  exchanged = record {
    answered = tt;
    stop = cut;
    connection = record { first = []; last = []; following = bytes; reads = refl; stops = refl; all = refl };
    stops = refl;
    unfinished = ([], (ap (λ known. prepend_known [] known) is_left, inl refl));
    written = Appends-nil kept;
  };
}

-- before the first request
pub nothing_yet : (Runs : Tables → List CallBy → Tables → Type 0) (this : Tables) (held left old : Option (List ℕ)) → Runs this [] this → held ≡ left
    → IfSome left (IsSoFar Runs this 1 held old old)
nothing_yet Runs this held left old run are = if_some _ left (λ bytes is_left. record {
  exchanges = [];
  now = this;
  run = run;
  callers = refl;
  answered = tt;
  following = bytes;
  reads = refl;
  left_are = are ∙ is_left;
  count = refl;
  written = Appends-nil old;
})

-- ---- a step

pub map_some : {A : Type 0} {P Q : A → Type 0} (o : Option A) → IfSome o P → ((a : A) → P a → Q a) → IfSome o Q
map_some None p h = p
map_some (Some a) p h = h a p

-- what a call answers that ends with a fault
pub exit_as : {A E : Type 0} (P : Result A E → Type 0) (r : Result A E) (e f : E) → ((y : E) × (r ≡ Err y) × (y ≡ e)) → e ≡ f → P (Err f) → P r
exit_as P r e f exit same p = subst P (sym (exit.1 ∙ ap (λ x. Err x) (exit.2 ∙ same))) p

-- where a read fails or memory runs out, the input didn't end
pub no_end : (fault : TransferFault) (Fact : Type 0) → IfEnded (Err (of_transfer fault)) Fact
no_end (transfer.Read error) Fact = tt
no_end transfer.Memory Fact = tt

-- a head that is refused ends the connection
pub head_refused : (Runs : Tables → List CallBy → Tables → Type 0) (this : Tables) (ordinal : ℕ) (refusal : Refusal) (bare : Bool) (bytes : List ℕ) (Writes : List ℕ → Type 0)
    → Runs this [] this → IsNext bytes (refused refusal bare) → Writes (told_text (Refused refusal) bare true)
    → Exchanged Runs this (IsLast this.callers ordinal bytes) Writes
head_refused Runs this ordinal refusal bare bytes Writes run next written = record {
  exchange = asked_as (Err refusal) false bare true (refusal_answer refusal);
  asked = (refused refusal bare, next, refl);
  has = has_exchanged Runs this this (Err refusal) false (Refused refusal) bare true (refl, refl) run;
  written = subst Writes (same_text this this (Err refusal) false (Refused refusal) bare true (refl, refl)) written;
}

pub also_asked : (Runs : Tables → List CallBy → Tables → Type 0) (this : Tables) (ordinal : ℕ) (bytes : List ℕ) (Writes : List ℕ → Type 0)
    → Exchanged Runs this (IsLast this.callers ordinal bytes) Writes → Exchanged Runs this (IsAsked this.callers ordinal bytes) Writes
also_asked Runs this ordinal bytes Writes done = record { exchange = done.exchange; asked = inl done.asked; has = done.has; written = done.written }

asked_test : (ends : Bool) (rows : List CallerRow) (ordinal : ℕ) (bytes : List ℕ) (parts : Parts) (body following : List ℕ) (answer : Answer)
    → IsNext bytes (whole parts body following) → ends ≡ (parts.closes || nat_le most_requests ordinal)
    → IsAsked rows ordinal bytes (asked_as (what_of rows parts body) (has_token parts) (is_bare parts) ends answer).asked
asked_test true rows ordinal bytes parts body following answer next e =
    inl (whole parts body following, next, (ap (λ b. record { what = what_of rows parts body; has_token = has_token parts; is_bare = is_bare parts; closes = b }) e, refl))
asked_test false rows ordinal bytes parts body following answer next e =
    inr (
      following,
      record {
        parts = parts;
        body = body;
        next = next;
        is = ap (λ b. record { what = what_of rows parts body; has_token = has_token parts; is_bare = is_bare parts; closes = b }) e;
        stays = refl;
      },
    )

-- a whole request whose reply wasn't written whole
pub whole_cut : (Runs : Tables → List CallBy → Tables → Type 0) (this : Tables) (ordinal : ℕ) (bytes : List ℕ) (parts : Parts) (body following : List ℕ) (ends : Bool) (old new : Option (List ℕ))
    (IsSo : Exchange → Note → Type 0) (answer : Result Note ConnFault) (fault : ConnFault) → IsNext bytes (whole parts body following) → ends ≡ (parts.closes || nat_le most_requests ordinal)
    → answer ≡ Err fault → IsExchanged Runs this (what_of this.callers parts body) (has_token parts) (is_bare parts) ends IsSo old new answer
    → (fault ≡ Write) × Exchanged Runs this (IsAsked this.callers ordinal bytes) (AppendsFront old new)
whole_cut Runs this ordinal bytes parts body following ends old new IsSo answer fault next e is done =
    let failed : fault ≡ Write = subst IsFailedWrite is done.failed in (
      failed,
      record {
        exchange = asked_as (what_of this.callers parts body) (has_token parts) (is_bare parts) ends done.told;
        asked = asked_test ends this.callers ordinal bytes parts body following done.told next e;
        has = done.has;
        written = subst (λ r. IsWritten r old new (exchange_text (asked_as (what_of this.callers parts body) (has_token parts) (is_bare parts) ends done.told)))
            (is ∙ ap (λ f. Err f) failed) done.written;
      },
    )

-- ---- what the desk did, whatever it was asked

pub ran_more : (First Then Whole : Tables → List CallBy → Tables → Type 0) → Join First Then Whole → (this : Tables) (so : HasRun First this) → HasRun Then so.closing → HasRun Whole this
ran_more First Then Whole join this so more = record {
  calls = so.calls ++ more.calls;
  closing = more.closing;
  run = join this so.closing more.closing so.calls more.calls so.run more.run;
}

-- ---- a read that failed

kept_some : (old new : Option (List ℕ)) (bytes : List ℕ) → old ≡ Some bytes → Keeps old new → new ≡ Some bytes
kept_some None new bytes is kept = absurd (cc)
kept_some (Some xs) None bytes is kept = absurd kept
kept_some (Some xs) (Some ys) bytes is kept = ap (λ l. Some l) kept ∙ is

-- what was held and read and what is left are the bytes that there were
pub unfinished_of : (old : Option (List ℕ)) (held : List ℕ) (left : Option (List ℕ)) → Keeps old (prepend_known held left) → IsUnfinished held
    → IfSome old (IsUnfinishedOf held left)
unfinished_of None held left kept unfinished = tt
unfinished_of (Some bytes) held left kept unfinished = (kept_some (Some bytes) (prepend_known held left) bytes refl kept, unfinished)

-- a read that failed or found no memory
pub read_failed : (Runs : Tables → List CallBy → Tables → Type 0) (this : Tables) (ordinal : ℕ) (held : List ℕ) (left old new : Option (List ℕ)) (bytes : List ℕ) (fault : TransferFault)
    → Runs this [] this → Appends old new [] → IsUnfinishedOf held left bytes → Serves Runs this ordinal held left old new (Err (of_transfer fault)) bytes
read_failed Runs this ordinal held left old new bytes (transfer.Read error) run written unfinished = (run, written, unfinished)
read_failed Runs this ordinal held left old new bytes transfer.Memory run written unfinished = (run, written, unfinished)
