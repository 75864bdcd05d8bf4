-- A change that comes again finds its number taken.
use Rattle.std.proofs.Common.{◌≡◌, ◌⊎◌, ℕ, ◌+◌, ◌<◌, ◌==◌, ◌&&◌, ◌++◌, Bool, true, false, List, [], ◌∷◌, get_or, nat_le, suc, refl, sym, ◌∙◌, ap, subst, inl, inr, arith}
use Rattle.std.specs.Prelude.{All, Any, Option, Some, None, Result, Ok, Err, length, nat_lt, if◌then◌else◌}
use Rattle.std.proofs.lemmas.Bool.Decides.{nat_tests}
use Rattle.std.proofs.lemmas.List.Elements.{All-cons, All-nil}
use Rattle.bureau_store.specs.Caller.{is_caller}
use Rattle.bureau_store.specs.Effect.{Effect}
use Rattle.bureau_store.specs.Tables.{LastChange, Tables, ZoneTable, zone_named}
use Rattle.bureau_store.specs.declared.caller.Caller.{Caller}
use Rattle.bureau_store.specs.declared.caller.Caller.TheVariants.{Publisher, Client}
use Rattle.bureau.specs.Bodies.{changes_in, rows_in, ids_in, patterns_in}
use Rattle.bureau.specs.Call.{Call, publish, put_zone, drop_zone, put_received, put_patterns, list_zones, report_on, zone_counts, chain, counts}
use Rattle.bureau.specs.Joint.{CallBy, IsRun, IsStep, tables_left}
use Rattle.bureau_store.specs.Store.{greatest_number}
use Rattle.bureau.specs.Outcome.{Answer, Outcome, answered, accepted, answer_of, bad_number, by_number, forbidden, gap, has_room, in_turn, may_ask, no_room, of_zone, outcome, outcome_allowed, plain, refused, said, stale, told}
use Rattle.bureau.specs.Repeat.{ActsOnce, IsChange, IsLater, IsToldAgain, IsToldStale, StaysStale, number_of}
use Rattle.bureau.specs.View.{View, view_of}
use Rattle.bureau.proofs.NamesFacts.{own_caller, same_caller}
use Rattle.bureau.proofs.AgreesFacts.{view_caller}

-- ---- what comes of a change in its turn

-- where nothing but an answer comes of a change, it is a refusal of its zone or its body
abbrev Refuses : Outcome → Type 0
Refuses (answered answer) = (answer.status ≡ 404) ⊎ (answer.status ≡ 422)
Refuses (accepted effect text) = Unit {0}

said_refuses : {A : Type 0} (body : Result A (List ℕ)) (answer : A → Outcome) → ((a : A) → Refuses (answer a)) → Refuses (said body answer)
said_refuses (Err line) answer h = inr refl
said_refuses (Ok a) answer h = h a

of_zone_refuses : (found : Option ZoneTable) (answer : ZoneTable → Outcome) → ((table : ZoneTable) → Refuses (answer table)) → Refuses (of_zone found answer)
of_zone_refuses None answer h = inl refl
of_zone_refuses (Some table) answer h = h table

room_refuses : (t : Bool) (effect : Effect) (text line : List ℕ) → Refuses (if t then accepted effect text else refused line)
room_refuses true effect text line = tt
room_refuses false effect text line = inr refl

-- a change that comes in its turn
record ComesInTurn (last : LastChange) (n : ℕ) (found : Outcome) : Type 0 where
  change : Outcome
  refuses : Refuses change
  is : found ≡ in_turn last (Some n) change

numbered : (last : LastChange) (number : Option ℕ) (n : ℕ) (change : Outcome) → Refuses change → number ≡ Some n → ComesInTurn last n (in_turn last number change)
numbered last number n change refuses e = record { change = change; refuses = refuses; is = ap (λ k. in_turn last k change) e }

allowed_in_turn : (view : View) (call : Call) (n : ℕ) → number_of call ≡ Some n → ComesInTurn view.last n (outcome_allowed view call)
allowed_in_turn view (publish number body) n e =
    numbered view.last number n _ (said_refuses (changes_in body) _ (λ changes. tt)) e
allowed_in_turn view (put_zone number zone body) n e =
    numbered view.last number n _ (said_refuses (rows_in body) _ (λ rows. room_refuses (has_room zone view.zones) _ _ _)) e
allowed_in_turn view (drop_zone number zone) n e =
    numbered view.last number n _ (of_zone_refuses (zone_named zone view.zones) _ (λ table. tt)) e
allowed_in_turn view (put_received number body) n e =
    numbered view.last number n _ (said_refuses (ids_in body) _ (λ ids. tt)) e
allowed_in_turn view (put_patterns number zone body) n e =
    numbered view.last number n _ (of_zone_refuses (zone_named zone view.zones) _ (λ table. said_refuses (patterns_in body) _ (λ patterns. tt))) e
allowed_in_turn view (list_zones form) n e = absurd (cc)
allowed_in_turn view (report_on report wanted zone) n e = absurd (cc)
allowed_in_turn view (zone_counts zone) n e = absurd (cc)
allowed_in_turn view (chain zone sysmod) n e = absurd (cc)
allowed_in_turn view (counts form) n e = absurd (cc)

view_last : (caller : Caller) (tables : Tables) → (view_of caller tables).last ≡ tables.last caller
view_last Publisher tables = refl
view_last (Client name) tables = refl

asked_in_turn : (view : View) (call : Call) (n : ℕ) → may_ask view.caller call ≡ true → number_of call ≡ Some n → ComesInTurn view.last n (outcome view call)
asked_in_turn view call n allowed e =
    let found = allowed_in_turn view call n e in
    record { change = found.change; refuses = found.refuses; is = rw allowed found.is }

-- what comes of a change by its caller over these tables
call_in_turn : (old : Tables) (call_by : CallBy) (n : ℕ) → IsChange n call_by → ComesInTurn (old.last call_by.caller) n (outcome (view_of call_by.caller old) call_by.call)
call_in_turn old call_by n is =
    subst (λ last. ComesInTurn last n (outcome (view_of call_by.caller old) call_by.call)) (view_last call_by.caller old)
    (asked_in_turn (view_of call_by.caller old) call_by.call n (ap (λ caller. may_ask caller call_by.call) (view_caller call_by.caller old) ∙ is.allowed) is.number)

-- ---- by its number

abbrev pub in_range : ℕ → Bool
in_range n = nat_lt 0 n && nat_le n greatest_number

-- what comes of a number that may be taken, and of any other
ranged : (last : LastChange) (n : ℕ) (change : Outcome) → in_range n ≡ true → in_turn last (Some n) change ≡ by_number n last change
ranged last n change is = rw is refl

unranged : (last : LastChange) (n : ℕ) (change : Outcome) → in_range n ≡ false → in_turn last (Some n) change ≡ answered bad_number
unranged last n change is = rw is refl

again_taken : (last : LastChange) (n : ℕ) (change : Outcome) → n ≡ last.number → by_number n last change ≡ told last.reply
again_taken last n change e =
    let test : (n == last.number) ≡ true = grind (arith, nat_tests) in rw test refl

passed_taken : (last : LastChange) (n : ℕ) (change : Outcome) → n < last.number → by_number n last change ≡ answered stale
passed_taken last n change low =
    let not_last : (n == last.number) ≡ false = grind (arith, nat_tests) in
    let not_next : (n == last.number + 1) ≡ false = grind (arith, nat_tests) in
    let below : nat_lt n last.number ≡ true = grind (arith, nat_tests) in
    rw not_last (rw not_next (rw below refl))

next_taken : (last : LastChange) (n : ℕ) (change : Outcome) → n ≡ last.number + 1 → by_number n last change ≡ change
next_taken last n change e =
    let not_last : (n == last.number) ≡ false = grind (arith, nat_tests) in
    let is_next : (n == last.number + 1) ≡ true = grind (arith, nat_tests) in
    rw not_last (rw is_next refl)

gap_taken : (last : LastChange) (n : ℕ) (change : Outcome) → last.number + 1 < n → by_number n last change ≡ answered (gap last.number)
gap_taken last n change over =
    let not_last : (n == last.number) ≡ false = grind (arith, nat_tests) in
    let not_next : (n == last.number + 1) ≡ false = grind (arith, nat_tests) in
    let not_below : nat_lt n last.number ≡ false = grind (arith, nat_tests) in
    rw not_last (rw not_next (rw not_below refl))

-- the number is that of the last change, the next one, below or above
data Standing (last n : ℕ) : Type 0 where
  is_last : n ≡ last → Standing last n
  is_next : n ≡ last + 1 → Standing last n
  is_below : n < last → Standing last n
  is_above : last + 1 < n → Standing last n

standing_by : (t u v : Bool) (last n : ℕ) → (n == last) ≡ t → (n == last + 1) ≡ u → nat_lt n last ≡ v → Standing last n
standing_by true u v last n p q r = is_last (grind (arith, nat_tests))
standing_by false true v last n p q r = is_next (grind (arith, nat_tests))
standing_by false false true last n p q r = is_below (grind (arith, nat_tests))
standing_by false false false last n p q r = is_above (grind (arith, nat_tests))

standing : (last n : ℕ) → Standing last n
standing last n = standing_by (n == last) (n == last + 1) (nat_lt n last) last n refl refl refl

-- ---- what is accepted

in_turn_accepted : (last : LastChange) (number : Option ℕ) (change : Outcome) (effect : Effect) (text : List ℕ) → in_turn last number change ≡ accepted effect text
    → number ≡ Some (last.number + 1)
in_turn_accepted last None change effect text e = absurd (cc)
in_turn_accepted last (Some n) change effect text e = by (in_range n) refl
  where
    stood : Standing last.number n → by_number n last change ≡ accepted effect text → Some n ≡ Some (last.number + 1)
    stood (is_last same) f = let again = sym f ∙ again_taken last n change same in absurd (cc)
    stood (is_next same) f = ap Some same
    stood (is_below low) f = let passed = sym f ∙ passed_taken last n change low in absurd (cc)
    stood (is_above over) f = let left_out = sym f ∙ gap_taken last n change over in absurd (cc)

    by : (t : Bool) → in_range n ≡ t → Some n ≡ Some (last.number + 1)
    by true range = stood (standing last.number n) (sym (ranged last n change range) ∙ e)
    by false range = let none = sym e ∙ unranged last n change range in absurd (cc)

none_of_zone : {A : Type 0} (found : Option ZoneTable) (answer : ZoneTable → Answer) (effect : Effect) (text : List ℕ)
    → of_zone found (λ table. answered (answer table)) ≡ accepted effect text → A
none_of_zone None answer effect text e = absurd (cc)
none_of_zone (Some table) answer effect text e = absurd (cc)

allowed_accepted : (view : View) (call : Call) (effect : Effect) (text : List ℕ) → outcome_allowed view call ≡ accepted effect text
    → number_of call ≡ Some (view.last.number + 1)
allowed_accepted view (publish number body) effect text e = in_turn_accepted view.last number _ effect text e
allowed_accepted view (put_zone number zone body) effect text e = in_turn_accepted view.last number _ effect text e
allowed_accepted view (drop_zone number zone) effect text e = in_turn_accepted view.last number _ effect text e
allowed_accepted view (put_received number body) effect text e = in_turn_accepted view.last number _ effect text e
allowed_accepted view (put_patterns number zone body) effect text e = in_turn_accepted view.last number _ effect text e
allowed_accepted view (list_zones form) effect text e = absurd (cc)
allowed_accepted view (report_on report wanted zone) effect text e = none_of_zone (zone_named zone view.zones) _ effect text e
allowed_accepted view (zone_counts zone) effect text e = none_of_zone (zone_named zone view.zones) _ effect text e
allowed_accepted view (chain zone sysmod) effect text e = none_of_zone (zone_named zone view.zones) _ effect text e
allowed_accepted view (counts form) effect text e = absurd (cc)

asked_accepted : (view : View) (call : Call) (effect : Effect) (text : List ℕ) → outcome view call ≡ accepted effect text
    → (may_ask view.caller call ≡ true) × (number_of call ≡ Some (view.last.number + 1))
asked_accepted view call effect text e = by (may_ask view.caller call) refl
  where
    by : (t : Bool) → may_ask view.caller call ≡ t → (may_ask view.caller call ≡ true) × (number_of call ≡ Some (view.last.number + 1))
    by true is = (is, allowed_accepted view call effect text (sym (ap (λ b. if b then outcome_allowed view call else answered forbidden) is) ∙ e))
    by false is = let refused = sym (ap (λ b. if b then outcome_allowed view call else answered forbidden) is) ∙ e in absurd (cc)

-- ---- numbers only rise

-- a call at which a caller's change is accepted
record Accepts (old new : Tables) (call_by : CallBy) (caller : Caller) : Type 0 where
  by : call_by.caller ≡ caller
  is : IsChange ((old.last caller).number + 1) call_by
  told_is : call_by.answer.status ≡ 200
  next : (new.last caller).number ≡ (old.last caller).number + 1

accepts_by : (old new : Tables) (call_by : CallBy) (caller : Caller) (effect : Effect) (text : List ℕ) → call_by.caller ≡ caller
    → outcome (view_of call_by.caller old) call_by.call ≡ accepted effect text → call_by.answer ≡ answer_of (outcome (view_of call_by.caller old) call_by.call)
    → new ≡ tables_left call_by.caller (outcome (view_of call_by.caller old) call_by.call) old → Accepts old new call_by caller
accepts_by old new call_by caller effect text by comes answers leaves =
    let asked = asked_accepted (view_of call_by.caller old) call_by.call effect text comes in
    let left : new.last call_by.caller ≡ record { number = (old.last call_by.caller).number + 1; reply = text } =
    ap (λ (t : Tables). t.last call_by.caller) (leaves ∙ ap (λ o. tables_left call_by.caller o old) comes)
    ∙ ap (λ b. if b then record { number = (old.last call_by.caller).number + 1; reply = text } else old.last call_by.caller) (own_caller call_by.caller) in
    let numbered_so = asked.1 ∙ ap (λ (last : LastChange). Some (last.number + 1)) (view_last call_by.caller old) in
    record {
      by = by;
      is = record {
        allowed = ap (λ c. may_ask c call_by.call) (sym (view_caller call_by.caller old)) ∙ asked.0;
        number = numbered_so ∙ ap (λ c. Some ((old.last c).number + 1)) by;
      };
      told_is = ap (λ (a : Answer). a.status) (answers ∙ ap answer_of comes);
      next = ap (λ c. (new.last c).number) (sym by) ∙ ap (λ (last : LastChange). last.number) left ∙ ap (λ c. (old.last c).number + 1) by;
    }

last_goes : (old new : Tables) (call_by : CallBy) → IsStep old call_by new → (other : Caller) → (new.last other ≡ old.last other) ⊎ Accepts old new call_by other
last_goes old new call_by (inl none) other = inl (ap (λ (t : Tables). t.last other) none.1)
last_goes old new call_by (inr made) other = comes (outcome (view_of call_by.caller old) call_by.call) refl
  where
    by : (b : Bool) (effect : Effect) (text : List ℕ) → outcome (view_of call_by.caller old) call_by.call ≡ accepted effect text → is_caller call_by.caller other ≡ b
        → (new.last other ≡ old.last other) ⊎ Accepts old new call_by other
    by true effect text e is = inr (accepts_by old new call_by other effect text (same_caller call_by.caller other is) e made.0 made.1)
    by false effect text e is =
        inl (ap (λ (t : Tables). t.last other) (made.1 ∙ ap (λ o. tables_left call_by.caller o old) e)
        ∙ ap (λ b. if b then record { number = (old.last call_by.caller).number + 1; reply = text } else old.last other) is)

    comes : (found : Outcome) → outcome (view_of call_by.caller old) call_by.call ≡ found → (new.last other ≡ old.last other) ⊎ Accepts old new call_by other
    comes (answered answer) e = inl (ap (λ (t : Tables). t.last other) (made.1 ∙ ap (λ o. tables_left call_by.caller o old) e))
    comes (accepted effect text) e = by (is_caller call_by.caller other) effect text e refl

-- the number is a caller's last one, with this reply, or below
abbrev pub IsLast : Caller → ℕ → List ℕ → Tables → Type 0
IsLast caller n reply tables = (n ≡ (tables.last caller).number) × (reply ≡ (tables.last caller).reply)

abbrev pub IsPassed : Caller → ℕ → Tables → Type 0
IsPassed caller n tables = n < (tables.last caller).number

abbrev pub IsTaken : Caller → ℕ → List ℕ → Tables → Type 0
IsTaken caller n reply tables = IsPassed caller n tables ⊎ IsLast caller n reply tables

pub passed_step : (caller : Caller) (n : ℕ) (old new : Tables) (call_by : CallBy) → IsStep old call_by new → IsPassed caller n old → IsPassed caller n new
passed_step caller n old new call_by step low = by (last_goes old new call_by step caller)
  where
    by : (new.last caller ≡ old.last caller) ⊎ Accepts old new call_by caller → IsPassed caller n new
    by (inl same) = subst (λ (last : LastChange). n < last.number) (sym same) low
    by (inr made) = let next = made.next in omega (arith, next, low)

kept_by_run : (P : Tables → Type 0) → ((old new : Tables) (call_by : CallBy) → IsStep old call_by new → P old → P new) → (old new : Tables) (calls : List CallBy)
    → IsRun old calls new → P old → P new
kept_by_run P step old new [] run p = subst P (sym run) p
kept_by_run P step old new (call_by ∷ calls) run p = kept_by_run P step run.0 new calls run.2 (step old run.0 call_by run.1 p)

pub split_run : (before rest : List CallBy) (old new : Tables) → IsRun old (before ++ rest) new → (at : Tables) × IsRun old before at × IsRun at rest new
split_run [] rest old new run = (old, refl, run)
split_run (call_by ∷ before) rest old new run =
    let more = split_run before rest run.0 new run.2 in (more.0, (run.0, run.1, more.1), more.2)

-- ---- the first time

-- what a change leaves that was told 200
pub record IsToldTaken (n : ℕ) (first : CallBy) (new : Tables) : Type 0 where
  pub reply : List ℕ
  pub range : in_range n ≡ true
  pub told_is : first.answer ≡ plain 200 reply
  pub taken : IsLast first.caller n reply new

no_status : {A : Type 0} (answer : Answer) (a b : ℕ) → answer.status ≡ a → answer.status ≡ b → (a ≡ b → ⊥) → A
no_status answer a b p q differ = absurd (differ (sym p ∙ q))

made_taken : (old new : Tables) (first : CallBy) (n : ℕ) (found change : Outcome) → Refuses change → found ≡ change → n ≡ (old.last first.caller).number + 1 → in_range n ≡ true
    → first.answer ≡ answer_of found → new ≡ tables_left first.caller found old → first.answer.status ≡ 200 → IsToldTaken n first new
made_taken old new first n found (answered answer) refuses is next range answers leaves ok =
    let status : answer.status ≡ 200 = ap (λ o. (answer_of o).status) (sym is) ∙ ap (λ (a : Answer). a.status) (sym answers) ∙ ok in
    elim refuses [
      | inl e ↦ no_status answer 404 200 e status (λ same. omega (arith, same))
      | inr e ↦ no_status answer 422 200 e status (λ same. omega (arith, same))
    ]
made_taken old new first n found (accepted effect text) refuses is next range answers leaves ok =
    let left : new.last first.caller ≡ record { number = (old.last first.caller).number + 1; reply = text } =
    ap (λ (t : Tables). t.last first.caller) (leaves ∙ ap (λ o. tables_left first.caller o old) is)
    ∙ ap (λ b. if b then record { number = (old.last first.caller).number + 1; reply = text } else old.last first.caller) (own_caller first.caller) in
    record {
      reply = text;
      range = range;
      told_is = answers ∙ ap answer_of is;
      taken = (next ∙ ap (λ (last : LastChange). last.number) (sym left), ap (λ (last : LastChange). last.reply) (sym left));
    }

stood_taken : (old new : Tables) (first : CallBy) (n : ℕ) (found change : Outcome) → Refuses change → in_range n ≡ true
    → found ≡ by_number n (old.last first.caller) change → first.answer ≡ answer_of found → new ≡ tables_left first.caller found old → first.answer.status ≡ 200
    → Standing (old.last first.caller).number n → IsToldTaken n first new
stood_taken old new first n found change refuses range is answers leaves ok (is_last e) =
    let again : found ≡ told (old.last first.caller).reply = is ∙ again_taken (old.last first.caller) n change e in
    let same : new ≡ old = leaves ∙ ap (λ o. tables_left first.caller o old) again in
    record {
      reply = (old.last first.caller).reply;
      range = range;
      told_is = answers ∙ ap answer_of again;
      taken = (e ∙ ap (λ (t : Tables). (t.last first.caller).number) (sym same), ap (λ (t : Tables). (t.last first.caller).reply) (sym same));
    }
stood_taken old new first n found change refuses range is answers leaves ok (is_next e) =
    made_taken old new first n found change refuses (is ∙ next_taken (old.last first.caller) n change e) e range answers leaves ok
stood_taken old new first n found change refuses range is answers leaves ok (is_below low) =
    let e : found ≡ answered stale = is ∙ passed_taken (old.last first.caller) n change low in
    no_status first.answer 409 200 (ap (λ (a : Answer). a.status) answers ∙ ap (λ o. (answer_of o).status) e) ok (λ same. omega (arith, same))
stood_taken old new first n found change refuses range is answers leaves ok (is_above over) =
    let e : found ≡ answered (gap (old.last first.caller).number) = is ∙ gap_taken (old.last first.caller) n change over in
    no_status first.answer 409 200 (ap (λ (a : Answer). a.status) answers ∙ ap (λ o. (answer_of o).status) e) ok (λ same. omega (arith, same))

pub first_taken : (old new : Tables) (first : CallBy) (n : ℕ) → IsStep old first new → IsChange n first → first.answer.status ≡ 200 → IsToldTaken n first new
first_taken old new first n (inl none) is ok = no_status first.answer 503 200 (ap (λ (a : Answer). a.status) none.0) ok (λ same. omega (arith, same))
first_taken old new first n (inr made) is ok = by (in_range n) refl
  where
    turned : ComesInTurn (old.last first.caller) n (outcome (view_of first.caller old) first.call)
    turned = call_in_turn old first n is

    by : (t : Bool) → in_range n ≡ t → IsToldTaken n first new
    by true range =
        stood_taken old new first n (outcome (view_of first.caller old) first.call) turned.change turned.refuses range
        (turned.is ∙ ranged (old.last first.caller) n turned.change range) made.0 made.1 ok (standing (old.last first.caller).number n)
    by false range =
        let e = turned.is ∙ unranged (old.last first.caller) n turned.change range in
        no_status first.answer 400 200 (ap (λ (a : Answer). a.status) made.0 ∙ ap (λ o. (answer_of o).status) e) ok (λ same. omega (arith, same))

-- ---- whether a later one is accepted

any_here : {X : Type 0} (P : X → Type 0) (x : X) (xs : List X) → P x → Any P (x ∷ xs)
any_here P x xs p = (0, x, omega arith, refl, p)

any_there : {X : Type 0} (P : X → Type 0) (x : X) (xs : List X) → Any P xs → Any P (x ∷ xs)
any_there P x xs any =
    let k = any.0 in
    let low : k < length xs = any.2 in (suc k, any.1, omega arith, any.3, any.4)

-- while the last number stays, no call is a later one
none_later : (caller : Caller) (n : ℕ) (old new : Tables) (call_by : CallBy) → IsStep old call_by new → n ≡ (old.last caller).number → new.last caller ≡ old.last caller
    → IsLater caller n call_by → ⊥
none_later caller n old new call_by step is same later =
    let took = first_taken old new call_by later.number step later.is later.accepted in
    let last : later.number ≡ (old.last caller).number = took.taken.0 ∙ ap (λ c. (new.last c).number) later.by ∙ ap (λ (l : LastChange). l.number) same in
    let low = later.later in omega (arith, is, last, low)

is_later : (caller : Caller) (n : ℕ) (old new : Tables) (call_by : CallBy) → n ≡ (old.last caller).number → Accepts old new call_by caller → IsLater caller n call_by
is_later caller n old new call_by is made = record { by = made.by; number = (old.last caller).number + 1; is = made.is; later = omega (arith, is); accepted = made.told_is }

-- no later change of the caller was accepted, and its last one is the same; or one was, and the number is below the last one
abbrev pub Passes : Caller → ℕ → Tables → List CallBy → Tables → Type 0
Passes caller n old calls new =
    (All (λ call_by. IsLater caller n call_by → ⊥) calls × (new.last caller ≡ old.last caller)) ⊎ (Any (IsLater caller n) calls × IsPassed caller n new)

-- with one call more before them
pub passes_more : (caller : Caller) (n : ℕ) (old mid new : Tables) (call_by : CallBy) (calls : List CallBy) → IsStep old call_by mid → n ≡ (old.last caller).number
    → (IsPassed caller n mid → IsPassed caller n new) → (n ≡ (mid.last caller).number → Passes caller n mid calls new) → Passes caller n old (call_by ∷ calls) new
passes_more caller n old mid new call_by calls step is goes more = by (last_goes old mid call_by step caller)
  where
    rest : mid.last caller ≡ old.last caller → Passes caller n mid calls new → Passes caller n old (call_by ∷ calls) new
    rest same (inl none) = inl (All-cons (λ call_by. IsLater caller n call_by → ⊥) call_by calls (none_later caller n old mid call_by step is same) none.0, none.1 ∙ same)
    rest same (inr passed) = inr (any_there (IsLater caller n) call_by calls passed.0, passed.1)

    by : (mid.last caller ≡ old.last caller) ⊎ Accepts old mid call_by caller → Passes caller n old (call_by ∷ calls) new
    by (inl same) = rest same (more (is ∙ ap (λ (last : LastChange). last.number) (sym same)))
    by (inr made) =
        let next = made.next in
        inr (any_here (IsLater caller n) call_by calls (is_later caller n old mid call_by is made), goes (omega (arith, next, is)))

pub passes_none : (caller : Caller) (n : ℕ) (old new : Tables) → new ≡ old → Passes caller n old [] new
passes_none caller n old new same = inl (All-nil (λ call_by. IsLater caller n call_by → ⊥), ap (λ (t : Tables). t.last caller) same)

passes : (caller : Caller) (n : ℕ) (old new : Tables) (calls : List CallBy) → IsRun old calls new → n ≡ (old.last caller).number → Passes caller n old calls new
passes caller n old new [] run is = passes_none caller n old new run
passes caller n old new (call_by ∷ calls) run is =
    passes_more caller n old run.0 new call_by calls run.1 is
    (kept_by_run (IsPassed caller n) (λ old new call_by. passed_step caller n old new call_by) run.0 new calls run.2) (passes caller n run.0 new calls run.2)

-- ---- and again

again_kept : (old new : Tables) (again : CallBy) (n : ℕ) (reply : List ℕ) → IsStep old again new → IsChange n again → in_range n ≡ true → IsLast again.caller n reply old
    → (again.answer ≡ no_room) ⊎ (again.answer ≡ plain 200 reply)
again_kept old new again n reply (inl none) is range last = inl none.0
again_kept old new again n reply (inr made) is range last =
    let turned = call_in_turn old again n is in
    inr (made.0 ∙ ap answer_of (turned.is ∙ ranged (old.last again.caller) n turned.change range ∙ again_taken (old.last again.caller) n turned.change last.0)
    ∙ ap (plain 200) (sym last.1))

again_stale : (old new : Tables) (again : CallBy) (n : ℕ) → IsStep old again new → IsChange n again → in_range n ≡ true → IsPassed again.caller n old
    → (again.answer ≡ no_room) ⊎ (again.answer ≡ stale)
again_stale old new again n (inl none) is range low = inl none.0
again_stale old new again n (inr made) is range low =
    let turned = call_in_turn old again n is in
    inr (made.0 ∙ ap answer_of (turned.is ∙ ranged (old.last again.caller) n turned.change range ∙ passed_taken (old.last again.caller) n turned.change low))

-- what was told STALE had a number below the last one
no_stale : {A : Type 0} (answer other : Answer) (a : ℕ) → answer ≡ stale → answer ≡ other → other.status ≡ a → (a ≡ 409 → ⊥) → A
no_stale answer other a is e status differ = absurd (differ (sym status ∙ ap (λ (x : Answer). x.status) (sym e ∙ is)))

made_stale : {A : Type 0} (first : CallBy) (change : Outcome) → Refuses change → first.answer ≡ answer_of change → first.answer ≡ stale → A
made_stale first (answered answer) (inl e) answers is = no_stale first.answer answer 404 is answers e (λ same. omega (arith, same))
made_stale first (answered answer) (inr e) answers is = no_stale first.answer answer 422 is answers e (λ same. omega (arith, same))
made_stale first (accepted effect text) refuses answers is = no_stale first.answer (plain 200 text) 200 is answers refl (λ same. omega (arith, same))

gap_stale : {A : Type 0} (first : CallBy) (last : ℕ) → first.answer ≡ gap last → first.answer ≡ stale → A
gap_stale first last answers is =
    let letters : 71 ≡ 83 = ap (λ (a : Answer). get_or a.body 0 0) (sym answers ∙ is) in absurd (omega (arith, letters))

stale_below : (old : Tables) (first : CallBy) (n : ℕ) (found change : Outcome) → Refuses change → found ≡ by_number n (old.last first.caller) change
    → first.answer ≡ answer_of found → first.answer ≡ stale → Standing (old.last first.caller).number n → IsPassed first.caller n old
stale_below old first n found change refuses e answers is (is_last same) =
    no_stale first.answer (plain 200 (old.last first.caller).reply) 200 is (answers ∙ ap answer_of (e ∙ again_taken (old.last first.caller) n change same)) refl (λ equal. omega (arith, equal))
stale_below old first n found change refuses e answers is (is_next next) =
    made_stale first change refuses (answers ∙ ap answer_of (e ∙ next_taken (old.last first.caller) n change next)) is
stale_below old first n found change refuses e answers is (is_below low) = low
stale_below old first n found change refuses e answers is (is_above over) =
    gap_stale first (old.last first.caller).number (answers ∙ ap answer_of (e ∙ gap_taken (old.last first.caller) n change over)) is

pub first_stale : (old new : Tables) (first : CallBy) (n : ℕ) → IsStep old first new → IsChange n first → first.answer ≡ stale → (in_range n ≡ true) × IsPassed first.caller n old
first_stale old new first n (inl none) is told_stale = no_stale first.answer no_room 503 told_stale none.0 refl (λ same. omega (arith, same))
first_stale old new first n (inr made) is told_stale = by (in_range n) refl
  where
    by : (t : Bool) → in_range n ≡ t → (in_range n ≡ true) × IsPassed first.caller n old
    by true range =
        let turned = call_in_turn old first n is in (
          range,
          stale_below old first n (outcome (view_of first.caller old) first.call) turned.change turned.refuses
              (turned.is ∙ ranged (old.last first.caller) n turned.change range) made.0 told_stale (standing (old.last first.caller).number n),
        )
    by false range =
        let turned = call_in_turn old first n is in
        no_stale first.answer bad_number 400 told_stale (made.0 ∙ ap answer_of (turned.is ∙ unranged (old.last first.caller) n turned.change range)) refl (λ same. omega (arith, same))

-- and it leaves the tables as they are

again_leaves : (old new : Tables) (again : CallBy) (n : ℕ) (reply : List ℕ) → IsStep old again new → IsChange n again → in_range n ≡ true → IsTaken again.caller n reply old
    → new ≡ old
again_leaves old new again n reply (inl none) is range taken = none.1
again_leaves old new again n reply (inr made) is range taken = by taken
  where
    turned : ComesInTurn (old.last again.caller) n (outcome (view_of again.caller old) again.call)
    turned = call_in_turn old again n is

    by : IsTaken again.caller n reply old → new ≡ old
    by (inl low) =
        made.1 ∙ ap (λ o. tables_left again.caller o old) (turned.is ∙ ranged (old.last again.caller) n turned.change range ∙ passed_taken (old.last again.caller) n turned.change low)
    by (inr last) =
        made.1 ∙ ap (λ o. tables_left again.caller o old) (turned.is ∙ ranged (old.last again.caller) n turned.change range ∙ again_taken (old.last again.caller) n turned.change last.0)

-- what is told when a change comes again after these calls, and that it leaves the tables as they are
pub told_again : (at now new : Tables) (first again : CallBy) (n : ℕ) (between : List CallBy) → IsToldTaken n first at → Passes first.caller n at between now → IsStep now again new
    → again.caller ≡ first.caller → IsChange n again → IsToldAgain n first between again × (new ≡ now)
told_again at now new first again n between took passed step caller is = by passed
  where
    leaves : IsTaken first.caller n took.reply now → new ≡ now
    leaves taken = again_leaves now new again n took.reply step is took.range (subst (λ who. IsTaken who n took.reply now) (sym caller) taken)

    by : Passes first.caller n at between now → IsToldAgain n first between again × (new ≡ now)
    by (inl none) =
        let last : IsLast first.caller n took.reply now =
        (took.taken.0 ∙ ap (λ (last : LastChange). last.number) (sym none.1), took.taken.1 ∙ ap (λ (last : LastChange). last.reply) (sym none.1)) in (
          elim (again_kept now new again n took.reply step is took.range (subst (λ who. IsLast who n took.reply now) (sym caller) last)) [
            | inl none_left ↦ inl none_left
            | inr same ↦ inr (inl (none.0, same ∙ sym took.told_is))
          ],
          leaves (inr last),
        )
    by (inr later) = (
      elim (again_stale now new again n step is took.range (subst (λ who. IsPassed who n now) (sym caller) later.1)) [
        | inl none_left ↦ inl none_left
        | inr gone ↦ inr (inr (later.0, gone))
      ],
      leaves (inl later.1),
    )

pub stale_again : (now new : Tables) (first again : CallBy) (n : ℕ) → in_range n ≡ true → IsPassed first.caller n now → IsStep now again new
    → again.caller ≡ first.caller → IsChange n again → IsToldStale again × (new ≡ now)
stale_again now new first again n range passed step caller is =
    let own = subst (λ who. IsPassed who n now) (sym caller) passed in
    (again_stale now new again n step is range own, again_leaves now new again n [] step is range (inl own))

pub run_join : (a b c : Tables) (xs ys : List CallBy) → IsRun a xs b → IsRun b ys c → IsRun a (xs ++ ys) c
run_join a b c [] ys first more = subst (λ (t : Tables). IsRun t ys c) first more
run_join a b c (x ∷ xs) ys first more = (first.0, first.1, run_join first.0 b c xs ys first.2 more)

without : (opening at mid now closing : Tables) (before : List CallBy) (first : CallBy) (between after : List CallBy) → IsRun opening before at → IsStep at first mid
    → IsRun mid between now → IsRun now after closing → IsRun opening (before ++ first ∷ (between ++ after)) closing
without opening at mid now closing before first between after run step more rest =
    run_join opening at closing before (first ∷ (between ++ after)) run (mid, step, run_join mid now closing between after more rest)

-- ---- over a run

pub acts_once : (opening closing : Tables) (calls : List CallBy) → IsRun opening calls closing → ActsOnce opening calls closing
acts_once opening closing calls run first again comes ok = (
  told_is.0,
  without opening at.0 at.2.0 later.0 closing comes.before first comes.between comes.after at.1 at.2.1 later.1
      (subst (λ (t : Tables). IsRun t comes.after closing) told_is.1 later.2.2),
)
  where
    n : ℕ
    n = comes.number

    at : (at : Tables) × IsRun opening comes.before at × IsRun at (first ∷ (comes.between ++ again ∷ comes.after)) closing
    at = split_run comes.before _ opening closing (subst (λ (ts : List CallBy). IsRun opening ts closing) comes.are run)

    took : IsToldTaken n first at.2.0
    took = first_taken at.0 at.2.0 first n at.2.1 comes.first_is ok

    later : (now : Tables) × IsRun at.2.0 comes.between now × IsRun now (again ∷ comes.after) closing
    later = split_run comes.between _ at.2.0 closing at.2.2

    told_is : IsToldAgain n first comes.between again × (later.2.0 ≡ later.0)
    told_is =
        told_again at.2.0 later.0 later.2.0 first again n comes.between took (passes first.caller n at.2.0 later.0 comes.between later.1 took.taken.0) later.2.1
        comes.caller comes.again_is

pub stays_stale : (opening closing : Tables) (calls : List CallBy) → IsRun opening calls closing → StaysStale opening calls closing
stays_stale opening closing calls run first again comes is =
    let whole = subst (λ (ts : List CallBy). IsRun opening ts closing) comes.are run in
    let at = split_run comes.before _ opening closing whole in
    let found = first_stale at.0 at.2.0 first comes.number at.2.1 comes.first_is is in
    let later = split_run comes.between _ at.2.0 closing at.2.2 in
    let after = passed_step first.caller comes.number at.0 at.2.0 first at.2.1 found.1 in
    let kept = kept_by_run (IsPassed first.caller comes.number) (λ old new call_by. passed_step first.caller comes.number old new call_by) at.2.0 later.0 comes.between later.1 after in
    let told_is = stale_again later.0 later.2.0 first again comes.number found.0 kept later.2.1 comes.caller comes.again_is in (
      told_is.0,
      without opening at.0 at.2.0 later.0 closing comes.before first comes.between comes.after at.1 at.2.1 later.1
          (subst (λ (t : Tables). IsRun t comes.after closing) told_is.1 later.2.2),
    )
