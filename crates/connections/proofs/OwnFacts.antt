-- What one connection had.
use Rattle.std.proofs.Common.{◌≡◌, ◌≢◌, ◌⊎◌, inl, inr, ℕ, ◌+◌, ◌||◌, Bool, true, false, List, [], ◌∷◌, ◌++◌, length, map, Some, None, slice_get, refl, sym, ap, ◌∙◌, subst, arith, append_assoc, append-nil}
use Rattle.std.proofs.lemmas.Bool.Decides.{eqb_tells}
use Rattle.std.specs.List.{AllByRecursion}
use Rattle.std.proofs.Math.Bool.{or-false}
use Rattle.log_lines.specs.declared.note.Note.{Note}
use Rattle.requests.specs.NextRequest.{IsUnfinished}
use Rattle.bureau_store.specs.declared.caller.CallerRow.{CallerRow}
use Rattle.bureau_http.specs.Asked.{Asked}
use Rattle.bureau_http.specs.Connection.{IsConnection, IsLast, IsRequest, ReadsTo, clean, inside, closed, cut}
use Rattle.bureau_http.specs.Exchange.{Exchange, IsAnswered, exchange_text, replies_text}
use Rattle.bureau_http.proofs.ServingFacts.{all_on, reads_on, text_more, more_count}
use Rattle.connections.specs.Items.{Answers, Asks, Event, Grows, Happens, IsDone, IsEnded, IsStarved, Item, Leaves, Loses, Moves, Slots, PutsWith, Sends, Step, Steps, came, bytes, wrote, ended, failed, late, fresh, happens, went, stray, missed, answered, lost, starved, finished}
use Rattle.connections.specs.Own.{EachIsServed, IsServedAlone, Stays, StaysBy, asked_in, ended_well, exchanges_at, got, got_in, is_finish, sent, sent_in}
use Rattle.connections.specs.declared.connection.Connection.{Connection}
use Rattle.connections.specs.declared.connection.Phase.TheVariants.{Open, Ended, Last}
use Rattle.connections.proofs.SlotFacts.{get_other, get_same, left_here, moved_here, none_left, none_moved, other_left, other_moved}
use Rattle.connections.proofs.ReadingFacts.{Later, asked_more, asked_of, at_slot, reads_later}

-- ---- what a connection that is there had so far

-- what has to go out follows what was written, and both are the replies
abbrev HasOut : List Exchange → List ℕ → List ℕ → Type 0
HasOut exchanges written out = written ++ out ≡ replies_text exchanges

-- it goes on
record IsGoing (rows : List CallerRow) (text : List ℕ) (exchanges : List Exchange) (written : List ℕ) (now : Connection) : Type 0 where
  pub goes : now.phase ≢ Last
  pub reads : ReadsTo rows 1 text (map asked_of exchanges) now.held
  pub ordinal : now.ordinal ≡ 1 + length exchanges
  pub answered : AllByRecursion IsAnswered exchanges
  pub out : HasOut exchanges written now.out

-- its last reply was put
record IsClosed (rows : List CallerRow) (text : List ℕ) (exchanges : List Exchange) (written : List ℕ) (now : Connection) : Type 0 where
  pub last : now.phase ≡ Last
  pub connection : IsConnection rows text (map asked_of exchanges) closed
  pub answered : AllByRecursion IsAnswered exchanges
  pub out : HasOut exchanges written now.out

abbrev IsThere : List CallerRow → List ℕ → List Exchange → List ℕ → Connection → Type 0
IsThere rows text exchanges written now = IsGoing rows text exchanges written now ⊎ IsClosed rows text exchanges written now

not_last : (now : Connection) → now.phase ≡ Open → now.phase ≡ Last → ⊥
not_last now is last = let e : Open ≡ Last = sym is ∙ last in absurd (cc)

ended_not_last : (now : Connection) → now.phase ≡ Ended → now.phase ≡ Last → ⊥
ended_not_last now is last = let e : Ended ≡ Last = sym is ∙ last in absurd (cc)

-- ---- where it stops

front_of_out : (exchanges : List Exchange) (written out : List ℕ) → HasOut exchanges written out → (rest : List ℕ) × (replies_text exchanges ≡ written ++ rest)
front_of_out exchanges written out has = (out, sym has)

all_out : (exchanges : List Exchange) (written out : List ℕ) → HasOut exchanges written out → out ≡ [] → written ≡ replies_text exchanges
all_out exchanges written out has none = sym (append-nil written) ∙ ap (λ l. written ++ l) (sym none) ∙ has

never : false ≡ true → {P : Type 0} → P
never e = absurd (cc)

-- its requests so far, and no stop of its own
cut_at : (rows : List CallerRow) (text : List ℕ) (asked : List Asked) (held : List ℕ) → ReadsTo rows 1 text asked held → IsConnection rows text asked cut
cut_at rows text asked held reads =
    record { first = asked; last = []; following = held; reads = reads; stops = refl; all = sym (append-nil asked) }

cut_now : (rows : List CallerRow) (text : List ℕ) (exchanges : List Exchange) (written : List ℕ) (now : Connection) → IsThere rows text exchanges written now
    → IsServedAlone rows text exchanges written false
cut_now rows text exchanges written now (inl goes) = record {
  stop = cut;
  connection = cut_at rows text (map asked_of exchanges) now.held goes.reads;
  answered = goes.answered;
  front = front_of_out exchanges written now.out goes.out;
  whole = λ e. never e;
}
cut_now rows text exchanges written now (inr last) = record {
  stop = closed;
  connection = last.connection;
  answered = last.answered;
  front = front_of_out exchanges written now.out last.out;
  whole = λ e. never e;
}

-- it ended well, since its peer ended its side
ended_by_peer : (rows : List CallerRow) (text : List ℕ) (exchanges : List Exchange) (written : List ℕ) (now : Connection) → IsGoing rows text exchanges written now
    → now.out ≡ [] → IsUnfinished now.held → IsServedAlone rows text exchanges written true
ended_by_peer rows text exchanges written now goes none (inl end) = record {
  stop = clean;
  connection = record { first = map asked_of exchanges; last = []; following = now.held; reads = goes.reads; stops = (refl, end); all = sym (append-nil (map asked_of exchanges)) };
  answered = goes.answered;
  front = front_of_out exchanges written now.out goes.out;
  whole = λ e. (tt, all_out exchanges written now.out goes.out none);
}
ended_by_peer rows text exchanges written now goes none (inr end) = record {
  stop = inside;
  connection = record { first = map asked_of exchanges; last = []; following = now.held; reads = goes.reads; stops = (refl, end); all = sym (append-nil (map asked_of exchanges)) };
  answered = goes.answered;
  front = front_of_out exchanges written now.out goes.out;
  whole = λ e. (tt, all_out exchanges written now.out goes.out none);
}

done_by : (rows : List CallerRow) (text : List ℕ) (exchanges : List Exchange) (written : List ℕ) (now : Connection) → IsThere rows text exchanges written now
    → now.out ≡ [] → (now.phase ≡ Last) ⊎ ((now.phase ≡ Ended) × IsUnfinished now.held) → IsServedAlone rows text exchanges written true
done_by rows text exchanges written now (inl goes) none (inl last) = absurd (goes.goes last)
done_by rows text exchanges written now (inl goes) none (inr end) = ended_by_peer rows text exchanges written now goes none end.1
done_by rows text exchanges written now (inr last) none (inl is) = record {
  stop = closed;
  connection = last.connection;
  answered = last.answered;
  front = front_of_out exchanges written now.out last.out;
  whole = λ e. (tt, all_out exchanges written now.out last.out none);
}
done_by rows text exchanges written now (inr last) none (inr end) = absurd (ended_not_last now end.0 last.last)

-- ---- one request more

-- the ordinal at which it stands
here : (P : ℕ → Type 0) (ordinal : ℕ) (exchanges : List Exchange) → ordinal ≡ 1 + length exchanges → P ordinal → P (1 + length (map asked_of exchanges))
here P ordinal exchanges written p = subst P (at_slot ordinal exchanges written) p

reads_more : (rows : List CallerRow) (text : List ℕ) (exchanges : List Exchange) (exchange : Exchange) (ordinal : ℕ) (held following : List ℕ)
    → ordinal ≡ 1 + length exchanges → ReadsTo rows 1 text (map asked_of exchanges) held → IsRequest rows ordinal held exchange.asked following
    → ReadsTo rows 1 text (map asked_of (exchanges ++ exchange ∷ [])) following
reads_more rows text exchanges exchange ordinal held following written reads is =
    subst (λ l. ReadsTo rows 1 text l following) (sym (asked_more exchanges exchange))
    (reads_on rows 1 text (map asked_of exchanges) held exchange.asked following reads
    (here (λ n. IsRequest rows n held exchange.asked following) ordinal exchanges written is))

closed_by : (rows : List CallerRow) (text : List ℕ) (exchanges : List Exchange) (exchange : Exchange) (ordinal : ℕ) (held : List ℕ)
    → ordinal ≡ 1 + length exchanges → ReadsTo rows 1 text (map asked_of exchanges) held → IsLast rows ordinal held exchange.asked
    → IsConnection rows text (map asked_of (exchanges ++ exchange ∷ [])) closed
closed_by rows text exchanges exchange ordinal held written reads is = record {
  first = map asked_of exchanges;
  last = exchange.asked ∷ [];
  following = held;
  reads = reads;
  stops = (exchange.asked, refl, here (λ n. IsLast rows n held exchange.asked) ordinal exchanges written is);
  all = asked_more exchanges exchange;
}

put_out : (exchanges : List Exchange) (exchange : Exchange) (written out : List ℕ) → HasOut exchanges written out → out ≡ []
    → HasOut (exchanges ++ exchange ∷ []) written (exchange_text exchange)
put_out exchanges exchange written out has none =
    ap (λ l. l ++ exchange_text exchange) (all_out exchanges written out has none) ∙ sym (text_more exchanges exchange)

next_ordinal : (exchanges : List Exchange) (exchange : Exchange) (ordinal : ℕ) → ordinal ≡ 1 + length exchanges
    → ordinal + 1 ≡ 1 + length (exchanges ++ exchange ∷ [])
next_ordinal exchanges exchange ordinal e = let more = more_count exchanges exchange in omega arith

answered_more : (exchanges : List Exchange) (exchange : Exchange) → AllByRecursion IsAnswered exchanges → IsAnswered exchange
    → AllByRecursion IsAnswered (exchanges ++ exchange ∷ [])
answered_more exchanges exchange all one = all_on IsAnswered exchanges (exchange ∷ []) all (one, tt)

-- it was answered, and its reply was put
put_by : (rows : List CallerRow) (text : List ℕ) (exchanges : List Exchange) (exchange : Exchange) (written : List ℕ) (old new : Connection) (note : Note)
    → IsGoing rows text exchanges written old → old.out ≡ [] → IsAnswered exchange → PutsWith note rows exchange old new
    → IsThere rows text (exchanges ++ exchange ∷ []) written new
put_by rows text exchanges exchange written old new note goes none answer (inl stays) = subst (IsThere rows text (exchanges ++ exchange ∷ []) written) (sym stays.2) (inl (record {
  goes = goes.goes;
  reads = reads_more rows text exchanges exchange old.ordinal old.held stays.0 goes.ordinal goes.reads stays.1;
  ordinal = next_ordinal exchanges exchange old.ordinal goes.ordinal;
  answered = answered_more exchanges exchange goes.answered answer;
  out = put_out exchanges exchange written old.out goes.out none;
}))
put_by rows text exchanges exchange written old new note goes none answer (inr ends) = subst (IsThere rows text (exchanges ++ exchange ∷ []) written) (sym ends.1) (inr (record {
  last = refl;
  connection = closed_by rows text exchanges exchange old.ordinal old.held goes.ordinal goes.reads ends.0;
  answered = answered_more exchanges exchange goes.answered answer;
  out = put_out exchanges exchange written old.out goes.out none;
}))

answered_by : (rows : List CallerRow) (text : List ℕ) (exchanges : List Exchange) (exchange : Exchange) (written : List ℕ) (old new : Connection)
    → IsThere rows text exchanges written old → Answers rows exchange old new → IsThere rows text (exchanges ++ exchange ∷ []) written new
answered_by rows text exchanges exchange written old new (inl goes) h = put_by rows text exchanges exchange written old new h.2.0 goes h.0.0 h.1 h.2.2
answered_by rows text exchanges exchange written old new (inr last) h = absurd (h.0.1 last.last)

more_front : (exchanges : List Exchange) (exchange : Exchange) (written : List ℕ) → (rest : List ℕ) × (replies_text exchanges ≡ written ++ rest)
    → (rest : List ℕ) × (replies_text (exchanges ++ exchange ∷ []) ≡ written ++ rest)
more_front exchanges exchange written front = (
  front.0 ++ exchange_text exchange,
  text_more exchanges exchange ∙ ap (λ l. l ++ exchange_text exchange) front.1 ∙ append_assoc written front.0 (exchange_text exchange),
)

-- it was answered, and there was no memory for the reply
lost_going : (rows : List CallerRow) (text : List ℕ) (exchanges : List Exchange) (exchange : Exchange) (written : List ℕ) (old : Connection)
    → IsGoing rows text exchanges written old → IsAnswered exchange → Asks rows old exchange.asked
    → IsServedAlone rows text (exchanges ++ exchange ∷ []) written false
lost_going rows text exchanges exchange written old goes answer (inl last) = record {
  stop = closed;
  connection = closed_by rows text exchanges exchange old.ordinal old.held goes.ordinal goes.reads last;
  answered = answered_more exchanges exchange goes.answered answer;
  front = more_front exchanges exchange written (front_of_out exchanges written old.out goes.out);
  whole = λ e. never e;
}
lost_going rows text exchanges exchange written old goes answer (inr stays) = record {
  stop = cut;
  connection = cut_at rows text (map asked_of (exchanges ++ exchange ∷ [])) stays.0
      (reads_more rows text exchanges exchange old.ordinal old.held stays.0 goes.ordinal goes.reads stays.1);
  answered = answered_more exchanges exchange goes.answered answer;
  front = more_front exchanges exchange written (front_of_out exchanges written old.out goes.out);
  whole = λ e. never e;
}

lost_by : (rows : List CallerRow) (text : List ℕ) (exchanges : List Exchange) (exchange : Exchange) (written : List ℕ) (old : Connection)
    → IsThere rows text exchanges written old → Loses rows exchange old → IsServedAlone rows text (exchanges ++ exchange ∷ []) written false
lost_by rows text exchanges exchange written old (inl goes) h = lost_going rows text exchanges exchange written old goes h.1 h.2
lost_by rows text exchanges exchange written old (inr last) h = absurd (h.0.1 last.last)

-- ---- bytes in and out

grown_by : Later → (rows : List CallerRow) (text : List ℕ) (exchanges : List Exchange) (written : List ℕ) (old new : Connection) (more : List ℕ)
    → IsThere rows text exchanges written old → Grows more old new → IsThere rows (text ++ more) exchanges written new
grown_by later rows text exchanges written old new more (inl goes) h = subst (IsThere rows (text ++ more) exchanges written) (sym h.1) (inl (record {
  goes = λ e. absurd (cc e);
  reads = reads_later later rows 1 text (map asked_of exchanges) old.held more goes.reads;
  ordinal = goes.ordinal;
  answered = goes.answered;
  out = goes.out;
}))
grown_by later rows text exchanges written old new more (inr last) h = absurd (not_last old h.0 last.last)

sent_out : (exchanges : List Exchange) (written text out rest : List ℕ) → out ≡ text ++ rest → HasOut exchanges written out → HasOut exchanges (written ++ text) rest
sent_out exchanges written text out rest is has = append_assoc written text rest ∙ ap (λ l. written ++ l) (sym is) ∙ has

sent_on : (rows : List CallerRow) (text : List ℕ) (exchanges : List Exchange) (written more : List ℕ) (old new : Connection)
    → IsThere rows text exchanges written old → Sends more old new → IsThere rows text exchanges (written ++ more) new
sent_on rows text exchanges written more old new (inl goes) h = subst (IsThere rows text exchanges (written ++ more)) (sym h.2) (inl (record {
  goes = goes.goes;
  reads = goes.reads;
  ordinal = goes.ordinal;
  answered = goes.answered;
  out = sent_out exchanges written more old.out h.0 h.1 goes.out;
}))
sent_on rows text exchanges written more old new (inr last) h = subst (IsThere rows text exchanges (written ++ more)) (sym h.2) (inr (record {
  last = last.last;
  connection = last.connection;
  answered = last.answered;
  out = sent_out exchanges written more old.out h.0 h.1 last.out;
}))

ended_on : (rows : List CallerRow) (text : List ℕ) (exchanges : List Exchange) (written : List ℕ) (old new : Connection)
    → IsThere rows text exchanges written old → IsEnded old new → IsThere rows text exchanges written new
ended_on rows text exchanges written old new (inl goes) h = subst (IsThere rows text exchanges written) (sym h.1) (inl (record {
  goes = λ e. absurd (cc e);
  reads = goes.reads;
  ordinal = goes.ordinal;
  answered = goes.answered;
  out = goes.out;
}))
ended_on rows text exchanges written old new (inr last) h = absurd (not_last old h.0 last.last)

-- ---- an item more

-- what is served, of items that begin with another or not
abbrev Served : List CallerRow → ℕ → List ℕ → List Exchange → List ℕ → List Item → Type 0
Served rows slot text exchanges written items =
    IsServedAlone rows (text ++ got slot items) (exchanges ++ exchanges_at slot items) (written ++ sent slot items) (ended_well slot items)

served_as : (rows : List CallerRow) (text text2 : List ℕ) (exchanges exchanges2 : List Exchange) (written written2 : List ℕ) (well well2 : Bool)
    → text ≡ text2 → exchanges ≡ exchanges2 → written ≡ written2 → well ≡ well2 → IsServedAlone rows text exchanges written well
    → IsServedAlone rows text2 exchanges2 written2 well2
served_as rows text text2 exchanges exchanges2 written written2 well well2 e f g h is =
    subst (IsServedAlone rows text2 exchanges2 written2) h
    (subst (λ n. IsServedAlone rows text2 exchanges2 n well) g
    (subst (λ l. IsServedAlone rows text2 l written well) f
    (subst (λ l. IsServedAlone rows l exchanges written well) e is)))

-- the item says nothing of the slot
served_same : (rows : List CallerRow) (slot : ℕ) (text : List ℕ) (exchanges : List Exchange) (written : List ℕ) (item : Item) (items : List Item)
    → got_in slot item ≡ [] → asked_in slot item ≡ [] → sent_in slot item ≡ [] → is_finish slot item ≡ false
    → Served rows slot text exchanges written items → Served rows slot text exchanges written (item ∷ items)
served_same rows slot text exchanges written item items e f g h is =
    served_as rows (text ++ got slot items) (text ++ got slot (item ∷ items)) (exchanges ++ exchanges_at slot items) (exchanges ++ exchanges_at slot (item ∷ items))
    (written ++ sent slot items) (written ++ sent slot (item ∷ items)) (ended_well slot items) (ended_well slot (item ∷ items))
    (ap (λ l. text ++ (l ++ got slot items)) (sym e)) (ap (λ l. exchanges ++ (l ++ exchanges_at slot items)) (sym f))
    (ap (λ l. written ++ (l ++ sent slot items)) (sym g)) (ap (λ b. b || ended_well slot items) (sym h)) is

-- bytes came
served_bytes : (rows : List CallerRow) (slot : ℕ) (text more : List ℕ) (exchanges : List Exchange) (written : List ℕ) (item : Item) (items : List Item)
    → got_in slot item ≡ more → asked_in slot item ≡ [] → sent_in slot item ≡ [] → is_finish slot item ≡ false
    → Served rows slot (text ++ more) exchanges written items → Served rows slot text exchanges written (item ∷ items)
served_bytes rows slot text more exchanges written item items e f g h is =
    served_as rows ((text ++ more) ++ got slot items) (text ++ got slot (item ∷ items)) (exchanges ++ exchanges_at slot items) (exchanges ++ exchanges_at slot (item ∷ items))
    (written ++ sent slot items) (written ++ sent slot (item ∷ items)) (ended_well slot items) (ended_well slot (item ∷ items))
    (append_assoc text more (got slot items) ∙ ap (λ l. text ++ (l ++ got slot items)) (sym e)) (ap (λ l. exchanges ++ (l ++ exchanges_at slot items)) (sym f))
    (ap (λ l. written ++ (l ++ sent slot items)) (sym g)) (ap (λ b. b || ended_well slot items) (sym h)) is

-- a request was answered
served_asked : (rows : List CallerRow) (slot : ℕ) (text : List ℕ) (exchanges : List Exchange) (exchange : Exchange) (written : List ℕ) (item : Item) (items : List Item)
    → got_in slot item ≡ [] → asked_in slot item ≡ exchange ∷ [] → sent_in slot item ≡ [] → is_finish slot item ≡ false
    → Served rows slot text (exchanges ++ exchange ∷ []) written items → Served rows slot text exchanges written (item ∷ items)
served_asked rows slot text exchanges exchange written item items e f g h is =
    served_as rows (text ++ got slot items) (text ++ got slot (item ∷ items)) ((exchanges ++ exchange ∷ []) ++ exchanges_at slot items) (exchanges ++ exchanges_at slot (item ∷ items))
    (written ++ sent slot items) (written ++ sent slot (item ∷ items)) (ended_well slot items) (ended_well slot (item ∷ items))
    (ap (λ l. text ++ (l ++ got slot items)) (sym e))
    (append_assoc exchanges (exchange ∷ []) (exchanges_at slot items) ∙ ap (λ l. exchanges ++ (l ++ exchanges_at slot items)) (sym f))
    (ap (λ l. written ++ (l ++ sent slot items)) (sym g)) (ap (λ b. b || ended_well slot items) (sym h)) is

-- bytes were written
served_sent : (rows : List CallerRow) (slot : ℕ) (text : List ℕ) (exchanges : List Exchange) (written more : List ℕ) (item : Item) (items : List Item)
    → got_in slot item ≡ [] → asked_in slot item ≡ [] → sent_in slot item ≡ more → is_finish slot item ≡ false
    → Served rows slot text exchanges (written ++ more) items → Served rows slot text exchanges written (item ∷ items)
served_sent rows slot text exchanges written more item items e f g h is =
    served_as rows (text ++ got slot items) (text ++ got slot (item ∷ items)) (exchanges ++ exchanges_at slot items) (exchanges ++ exchanges_at slot (item ∷ items))
    ((written ++ more) ++ sent slot items) (written ++ sent slot (item ∷ items)) (ended_well slot items) (ended_well slot (item ∷ items))
    (ap (λ l. text ++ (l ++ got slot items)) (sym e)) (ap (λ l. exchanges ++ (l ++ exchanges_at slot items)) (sym f))
    (append_assoc written more (sent slot items) ∙ ap (λ l. written ++ (l ++ sent slot items)) (sym g)) (ap (λ b. b || ended_well slot items) (sym h)) is

-- ---- after it left its slot

-- nothing is said of the slot
record Nothing (slot : ℕ) (items : List Item) : Type 0 where
  pub got_none : got slot items ≡ []
  pub asked_none : exchanges_at slot items ≡ []
  pub sent_none : sent slot items ≡ []
  pub not_well : ended_well slot items ≡ false

nothing_more : (slot : ℕ) (item : Item) (items : List Item) → got_in slot item ≡ [] → asked_in slot item ≡ [] → sent_in slot item ≡ []
    → is_finish slot item ≡ false → Nothing slot items → Nothing slot (item ∷ items)
nothing_more slot item items e f g h none = record {
  got_none = ap (λ l. l ++ got slot items) e ∙ none.got_none;
  asked_none = ap (λ l. l ++ exchanges_at slot items) f ∙ none.asked_none;
  sent_none = ap (λ l. l ++ sent slot items) g ∙ none.sent_none;
  not_well = ap (λ b. b || ended_well slot items) h ∙ none.not_well;
}

-- with this item it left, so
gone_by : (rows : List CallerRow) (slot : ℕ) (text : List ℕ) (exchanges all : List Exchange) (written : List ℕ) (well : Bool) (item : Item) (items : List Item)
    → got_in slot item ≡ [] → all ≡ exchanges ++ asked_in slot item → sent_in slot item ≡ [] → is_finish slot item ≡ well
    → IsServedAlone rows text all written well → Nothing slot items → Served rows slot text exchanges written (item ∷ items)
gone_by rows slot text exchanges all written well item items e f g h is none =
    served_as rows text (text ++ got slot (item ∷ items)) all (exchanges ++ exchanges_at slot (item ∷ items)) written (written ++ sent slot (item ∷ items)) well (ended_well slot (item ∷ items))
    (sym (append-nil text) ∙ ap (λ l. text ++ l) (sym (ap (λ l. l ++ got slot items) e ∙ none.got_none)))
    (f ∙ ap (λ l. exchanges ++ l) (sym (append-nil (asked_in slot item)) ∙ ap (λ l. asked_in slot item ++ l) (sym none.asked_none)))
    (sym (append-nil written) ∙ ap (λ l. written ++ l) (sym (ap (λ l. l ++ sent slot items) g ∙ none.sent_none)))
    (sym (ap (λ b. b || ended_well slot items) h ∙ ap (λ b. well || b) none.not_well ∙ or-false well)) is

-- what follows, where the connection is there, and where it isn't
abbrev On : List CallerRow → ℕ → List Item → Slots → Type 0
On rows slot items v =
    (now : Connection) (text : List ℕ) (exchanges : List Exchange) (written : List ℕ) → slice_get v slot ≡ Some (Some now) → IsThere rows text exchanges written now
    → Served rows slot text exchanges written items

abbrev Off : ℕ → List Item → Slots → Type 0
Off slot items v = slice_get v slot ≡ Some None → Nothing slot items

off_event : (slot : ℕ) (event : Event) (items : List Item) (t v : Slots) → slice_get t slot ≡ Some None → StaysBy slot event → Happens t event v
    → Off slot items v → Nothing slot (happens event ∷ items)
off_event slot (came other) items t v at stays h off =
    nothing_more slot (happens (came other)) items refl refl refl refl (off (ap (λ l. slice_get l slot) h.1 ∙ get_other t other slot (Some fresh) stays ∙ at))
off_event slot (bytes other text) items t v at stays h off =
    let not = none_moved t v other slot (Grows text) h at in
    nothing_more slot (happens (bytes other text)) items (rw not.0 refl) refl refl refl (off not.1)
off_event slot (wrote other count) items t v at stays h off = absurd h
off_event slot (ended other) items t v at stays h off =
    nothing_more slot (happens (ended other)) items refl refl refl refl (off (none_moved t v other slot IsEnded h at).1)
off_event slot (failed other) items t v at stays h off =
    nothing_more slot (happens (failed other)) items refl refl refl refl (off (none_left t v other slot (λ before. Unit {0}) h at).1)
off_event slot (late other) items t v at stays h off =
    nothing_more slot (happens (late other)) items refl refl refl refl (off (none_left t v other slot (λ before. Unit {0}) h at).1)

off_item : (rows : List CallerRow) (slot : ℕ) (item : Item) (items : List Item) (t v : Slots) → slice_get t slot ≡ Some None → Stays slot item → Step rows t item v
    → Off slot items v → Nothing slot (item ∷ items)
off_item rows slot (happens event) items t v at stays h off = off_event slot event items t v at stays h off
off_item rows slot (went other text) items t v at stays h off =
    let not = none_moved t v other slot (Sends text) h at in
    nothing_more slot (went other text) items refl refl (rw not.0 refl) refl (off not.1)
off_item rows slot (stray event) items t v at stays h off =
    nothing_more slot (stray event) items refl refl refl refl (off (ap (λ l. slice_get l slot) h.1 ∙ at))
off_item rows slot (missed other text) items t v at stays h off =
    nothing_more slot (missed other text) items refl refl refl refl (off (none_left t v other slot (λ before. before.phase ≡ Open) h at).1)
off_item rows slot (answered other exchange) items t v at stays h off =
    let not = none_moved t v other slot (Answers rows exchange) h at in
    nothing_more slot (answered other exchange) items refl (rw not.0 refl) refl refl (off not.1)
off_item rows slot (lost other exchange) items t v at stays h off =
    let not = none_left t v other slot (Loses rows exchange) h at in
    nothing_more slot (lost other exchange) items refl (rw not.0 refl) refl refl (off not.1)
off_item rows slot (starved other) items t v at stays h off =
    nothing_more slot (starved other) items refl refl refl refl (off (none_left t v other slot IsStarved h at).1)
off_item rows slot (finished other) items t v at stays h off =
    let not = none_left t v other slot IsDone h at in
    nothing_more slot (finished other) items refl refl refl not.0 (off not.1)

off : (rows : List CallerRow) (slot : ℕ) (items : List Item) (t u : Slots) → slice_get t slot ≡ Some None → AllByRecursion (Stays slot) items → Steps rows t items u
    → Nothing slot items
off rows slot [] t u at stays h = record { got_none = refl; asked_none = refl; sent_none = refl; not_well = refl }
off rows slot (item ∷ items) t u at stays h =
    off_item rows slot item items t h.0 at stays.0 h.1 (λ at_mid. off rows slot items h.0 u at_mid stays.1 h.2)

-- ---- as long as it is there

module _ (later : Later) (rows : List CallerRow) (slot : ℕ) (items : List Item) (t v : Slots) (now : Connection) (text : List ℕ) (exchanges : List Exchange) (written : List ℕ)
    (at : slice_get t slot ≡ Some (Some now)) (there : IsThere rows text exchanges written now) (on : On rows slot items v) (off : Off slot items v) where
  bytes_on : (other : ℕ) (more : List ℕ) → Moves t other v (Grows more) → Served rows slot text exchanges written (happens (bytes other more) ∷ items)
  bytes_on other more h = elim (eqb_tells other slot) [
    | inl y ↦
        let moved = moved_here t v other slot now (Grows more) y.1 h at in
        served_bytes rows slot text more exchanges written (happens (bytes other more)) items (rw y.0 refl) refl refl refl
        (on moved.0 (text ++ more) exchanges written moved.2 (grown_by later rows text exchanges written now moved.0 more there moved.1))
    | inr n ↦ served_same rows slot text exchanges written (happens (bytes other more)) items (rw n.0 refl) refl refl refl
        (on now text exchanges written (other_moved t v other slot (Some now) (Grows more) n.1 h at) there)
  ]

  went_on : (other : ℕ) (more : List ℕ) → Moves t other v (Sends more) → Served rows slot text exchanges written (went other more ∷ items)
  went_on other more h = elim (eqb_tells other slot) [
    | inl y ↦
        let moved = moved_here t v other slot now (Sends more) y.1 h at in
        served_sent rows slot text exchanges written more (went other more) items refl refl (rw y.0 refl) refl
        (on moved.0 text exchanges (written ++ more) moved.2 (sent_on rows text exchanges written more now moved.0 there moved.1))
    | inr n ↦ served_same rows slot text exchanges written (went other more) items refl refl (rw n.0 refl) refl
        (on now text exchanges written (other_moved t v other slot (Some now) (Sends more) n.1 h at) there)
  ]

  end_on : (other : ℕ) → Moves t other v IsEnded → Served rows slot text exchanges written (happens (ended other) ∷ items)
  end_on other h = elim (eqb_tells other slot) [
    | inl y ↦
        let moved = moved_here t v other slot now IsEnded y.1 h at in
        served_same rows slot text exchanges written (happens (ended other)) items refl refl refl refl
        (on moved.0 text exchanges written moved.2 (ended_on rows text exchanges written now moved.0 there moved.1))
    | inr n ↦ served_same rows slot text exchanges written (happens (ended other)) items refl refl refl refl
        (on now text exchanges written (other_moved t v other slot (Some now) IsEnded n.1 h at) there)
  ]

  -- it leaves, and had nothing more
  cut_on : (item : Item) (other : ℕ) (Why : Connection → Type 0) → Leaves t other v Why → got_in slot item ≡ [] → asked_in slot item ≡ [] → sent_in slot item ≡ []
      → is_finish slot item ≡ false → Served rows slot text exchanges written (item ∷ items)
  cut_on item other Why h e f g w = elim (eqb_tells other slot) [
    | inl y ↦
        let left = left_here t v other slot now Why y.1 h at in
        gone_by rows slot text exchanges exchanges written false item items e (sym (append-nil exchanges) ∙ ap (λ l. exchanges ++ l) (sym f)) g w
        (cut_now rows text exchanges written now there) (off left.1)
    | inr n ↦ served_same rows slot text exchanges written item items e f g w
        (on now text exchanges written (other_left t v other slot (Some now) Why n.1 h at) there)
  ]

  answered_on : (other : ℕ) (exchange : Exchange) → Moves t other v (Answers rows exchange) → Served rows slot text exchanges written (answered other exchange ∷ items)
  answered_on other exchange h = elim (eqb_tells other slot) [
    | inl y ↦
        let moved = moved_here t v other slot now (Answers rows exchange) y.1 h at in
        served_asked rows slot text exchanges exchange written (answered other exchange) items refl (rw y.0 refl) refl refl
        (on moved.0 text (exchanges ++ exchange ∷ []) written moved.2 (answered_by rows text exchanges exchange written now moved.0 there moved.1))
    | inr n ↦ served_same rows slot text exchanges written (answered other exchange) items refl (rw n.0 refl) refl refl
        (on now text exchanges written (other_moved t v other slot (Some now) (Answers rows exchange) n.1 h at) there)
  ]

  lost_on : (other : ℕ) (exchange : Exchange) → Leaves t other v (Loses rows exchange) → Served rows slot text exchanges written (lost other exchange ∷ items)
  lost_on other exchange h = elim (eqb_tells other slot) [
    | inl y ↦
        let left = left_here t v other slot now (Loses rows exchange) y.1 h at in
        gone_by rows slot text exchanges (exchanges ++ exchange ∷ []) written false (lost other exchange) items refl (rw y.0 refl) refl refl
        (lost_by rows text exchanges exchange written now there left.0) (off left.1)
    | inr n ↦ served_same rows slot text exchanges written (lost other exchange) items refl (rw n.0 refl) refl refl
        (on now text exchanges written (other_left t v other slot (Some now) (Loses rows exchange) n.1 h at) there)
  ]

  finished_on : (other : ℕ) → Leaves t other v IsDone → Served rows slot text exchanges written (finished other ∷ items)
  finished_on other h = elim (eqb_tells other slot) [
    | inl y ↦
        let left = left_here t v other slot now IsDone y.1 h at in
        gone_by rows slot text exchanges exchanges written true (finished other) items refl (sym (append-nil exchanges)) refl y.0
        (done_by rows text exchanges written now there left.0.0 left.0.1) (off left.1)
    | inr n ↦ served_same rows slot text exchanges written (finished other) items refl refl refl n.0
        (on now text exchanges written (other_left t v other slot (Some now) IsDone n.1 h at) there)
  ]

  event_on : (event : Event) → StaysBy slot event → Happens t event v → Served rows slot text exchanges written (happens event ∷ items)
  event_on (came other) stays h = served_same rows slot text exchanges written (happens (came other)) items refl refl refl refl
      (on now text exchanges written (ap (λ l. slice_get l slot) h.1 ∙ get_other t other slot (Some fresh) stays ∙ at) there)
  event_on (bytes other more) stays h = bytes_on other more h
  event_on (wrote other count) stays h = absurd h
  event_on (ended other) stays h = end_on other h
  event_on (failed other) stays h = cut_on (happens (failed other)) other (λ before. Unit {0}) h refl refl refl refl
  event_on (late other) stays h = cut_on (happens (late other)) other (λ before. Unit {0}) h refl refl refl refl

  item_on : (item : Item) → Stays slot item → Step rows t item v → Served rows slot text exchanges written (item ∷ items)
  item_on (happens event) stays h = event_on event stays h
  item_on (went other more) stays h = went_on other more h
  item_on (stray event) stays h = served_same rows slot text exchanges written (stray event) items refl refl refl refl
      (on now text exchanges written (ap (λ l. slice_get l slot) h.1 ∙ at) there)
  item_on (missed other more) stays h = cut_on (missed other more) other (λ before. before.phase ≡ Open) h refl refl refl refl
  item_on (answered other exchange) stays h = answered_on other exchange h
  item_on (lost other exchange) stays h = lost_on other exchange h
  item_on (starved other) stays h = cut_on (starved other) other IsStarved h refl refl refl refl
  item_on (finished other) stays h = finished_on other h

there_on : Later → (rows : List CallerRow) (slot : ℕ) (items : List Item) (t u : Slots) (now : Connection) (text : List ℕ) (exchanges : List Exchange) (written : List ℕ)
    → slice_get t slot ≡ Some (Some now) → IsThere rows text exchanges written now → AllByRecursion (Stays slot) items → Steps rows t items u
    → Served rows slot text exchanges written items
there_on later rows slot [] t u now text exchanges written at there stays h =
    served_as rows text (text ++ []) exchanges (exchanges ++ []) written (written ++ []) false false (sym (append-nil text)) (sym (append-nil exchanges)) (sym (append-nil written)) refl
    (cut_now rows text exchanges written now there)
there_on later rows slot (item ∷ items) t u now text exchanges written at there stays h =
    item_on later rows slot items t h.0 now text exchanges written at there
    (λ now2 text2 exchanges2 written2 at2 there2. there_on later rows slot items h.0 u now2 text2 exchanges2 written2 at2 there2 stays.1 h.2)
    (λ at2. off rows slot items h.0 u at2 stays.1 h.2) item stays.0 h.1

-- ---- of each connection, from its coming on

steps_split : (rows : List CallerRow) (xs ys : List Item) (t u : Slots) → Steps rows t (xs ++ ys) u → (v : Slots) × Steps rows t xs v × Steps rows v ys u
steps_split rows [] ys t u h = (t, refl, h)
steps_split rows (x ∷ xs) ys t u h =
    let more = steps_split rows xs ys h.0 u h.2 in
    (more.0, (h.0, h.1, more.1), more.2)

fresh_there : (rows : List CallerRow) → IsThere rows [] [] [] fresh
fresh_there rows = inl (record {
  goes = λ e. absurd (cc e);
  reads = refl;
  ordinal = refl;
  answered = tt;
  out = refl;
})

from_coming : Later → (rows : List CallerRow) (slot : ℕ) (during : List Item) (t v w : Slots) → Happens t (came slot) v → AllByRecursion (Stays slot) during
    → Steps rows v during w → IsServedAlone rows (got slot during) (exchanges_at slot during) (sent slot during) (ended_well slot during)
from_coming later rows slot during t v w h stays steps =
    let at : slice_get v slot ≡ Some (Some fresh) = ap (λ l. slice_get l slot) h.1 ∙ get_same t slot None (Some fresh) h.0 in
    served_as rows (got slot during) (got slot during) (exchanges_at slot during) (exchanges_at slot during) (sent slot during) (sent slot during)
    (ended_well slot during) (ended_well slot during) refl refl refl refl
    (there_on later rows slot during v w fresh [] [] [] at (fresh_there rows) stays steps)

pub each_served : Later → (rows : List CallerRow) (items : List Item) (t u : Slots) → Steps rows t items u → EachIsServed rows items
each_served later rows items t u h = λ slot before during after split stays.
    let parts = steps_split rows before (happens (came slot) ∷ (during ++ after)) t u (subst (λ l. Steps rows t l u) split h) in
    let rest = steps_split rows during after parts.2.0 u parts.2.2 in
    from_coming later rows slot during parts.0 parts.2.0 rest.0 parts.2.1 stays rest.1
