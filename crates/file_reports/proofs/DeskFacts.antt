-- What a client of a new desk is told, after all inputs were sent.
use Rattle.std.proofs.Common.{map, ◌≡◌, ℕ, ◌+◌, ◌≤◌, ◌==◌, Bool, true, false, List, [], ◌∷◌, ◌++◌, length, refl, sym, ◌∙◌, ap, subst, arith, append_assoc, append-nil}
use Rattle.std.specs.Prelude.{Option, Some, None, Result, Ok, Err, nat_le, nat_lt, is_some, unwrap_or, if◌then◌else◌}
use Rattle.std.specs.List.Sorted.{IsStrictlySortedBy}
use Rattle.std.specs.Option.{option_map}
use Rattle.std.proofs.lemmas.List.{length-map}
use Rattle.std.specs.Global.{Vec}
use Rattle.std.proofs.lemmas.Bool.{and_from, eq-eqb, le-leb, lt-ltb, ne_eqb}
use Rattle.faults.specs.FaultText.{text_of}
use Rattle.faults.specs.Told.{of_input}
use Rattle.mcs_reader.specs.ReadingOf.{reading_of}
use Rattle.mcs_reader.specs.Unread.{Read}
use Rattle.zone_lists.specs.declared.zones.ZoneRow.{ZoneRow}
use Rattle.catalogue.specs.Content.{Content}
use Rattle.catalogue.specs.Publication.{content_of}
use Rattle.catalogue.specs.declared.change.Change.{Change}
use Rattle.supersede.proofs.GivingFacts.{same_self}
use Rattle.questions.specs.declared.report.Report.TheVariants.{ErrSysmods, MissingFix}
use Rattle.questions.specs.declared.wanted.Form.TheVariants.{Text}
use Rattle.questions.specs.declared.wanted.Wanted.TheVariants.{Rows}
use Rattle.bureau_store.specs.Effect.{Effect, publication, zone_put, received_put, patterns_put, content_after, received_after}
use Rattle.bureau_store.specs.Store.{greatest_number}
use Rattle.bureau_store.specs.Tables.{LastChange, ZoneTable, Zones, name_order, zone_named}
use Rattle.bureau_store.specs.declared.caller.Caller.{Caller}
use Rattle.bureau_store.specs.declared.caller.Caller.TheVariants.{Publisher, Client}
use Rattle.bureau.specs.Bodies.{changes_in, ids_in, patterns_in, rows_in}
use Rattle.bureau.specs.Call.{Call, publish, put_patterns, put_received, put_zone, report_on, chain}
use Rattle.bureau.specs.Outcome.{Outcome, accepted, answered, answer_of, as_json, bad_number, by_number, gap, in_turn, of_zone, outcome, plain, put_of_zone, said, stale, told}
use Rattle.bureau.specs.Own.{Accepted, Asked, accepted_in, change_of, content_left, found, last_left, names_known, own_answer, own_view, patterns_left, publications, received_left, rows_left, says_patterns, says_rows, zone_left, zones_left}
use Rattle.bureau.specs.Texts.{chain_text, patterns_text, publication_text, received_text, report_text, zone_put_text}
use Rattle.bureau.proofs.LeftFacts.{AreKept, IsOfZone, content_more, kept_more, last_more, received_more, zone_is_left}
use Rattle.bureau.proofs.NamesFacts.{own_caller}
use Rattle.file_reports.specs.Desk.{IsDesksAnswer, all_sent, asked, list_sent, lists_sent, new_desk, publications_sent}
use Rattle.file_reports.specs.Inputs.{Inputs, Refused, Said, and_then, content_published, if_any, if_not_long, is_unended, list_in, most_bytes, publication_in, patterns_said, published_from, received_said, rows_said, said_by, said_in, statements_in}
use Rattle.file_reports.specs.Reports.{chain_text_said, err_text_said, missing_text_said, made_from, zone_said}
use Rattle.file_reports.specs.declared.fault.Input.{Input}
use Rattle.file_reports.specs.declared.fault.Input.TheVariants.{Zone, Categories, Received, Publication}

-- ---- what was said, taken apart

split : {A B : Type 0} (first : Result A Refused) (next : A → Result B Refused) (all : B) → and_then first next ≡ Ok all
    → (what : A) × (first ≡ Ok what) × (next what ≡ Ok all)
split (Ok what) next all is = (what, refl, is)
split (Err refused) next all is = absurd (cc is)

unsaid : {A : Type 0} (input : Input) (said : Result A (List ℕ)) (what : A) → said_in input said ≡ Ok what → said ≡ Ok what
unsaid {A} input (Ok x) what is = ap (λ (a : A). Ok a) (same is)
  where
    same : ◌≡◌ {A = Result A Refused} (Ok x) (Ok what) → x ≡ what
    same e = cc e
unsaid input (Err line) what is = absurd (cc is)

unlisted : {A : Type 0} (input : Input) (body : List ℕ) (said : Result A (List ℕ)) (what : A) → list_in input body said ≡ Ok what → said ≡ Ok what
unlisted {A} input body said what is = by (nat_le (length body) most_bytes) is
  where
    by : (b : Bool) → if_not_long b input said ≡ Ok what → said ≡ Ok what
    by true e = unsaid input said what e
    by false e = absurd (cc e)

-- what a FILE publishes is what its statements publish
with_any : {A : Type 0} (read : Read) (said : Result A (List ℕ)) (what : A) → if_any read said ≡ Ok what → said ≡ Ok what
with_any (Ok []) said what is = absurd (cc is)
with_any (Ok (statement ∷ more)) said what is = is
with_any (Err fault) said what is = is

with_lines : {A : Type 0} (unended : Bool) (line : List ℕ) (said : Result A (List ℕ)) (what : A) → (if unended then Err line else said) ≡ Ok what → said ≡ Ok what
with_lines true line said what is = absurd (cc is)
with_lines false line said what is = is

-- ---- numbers

-- a change with the number after the last one comes in its turn
turn : (last : LastChange) (number : ℕ) (change : Outcome) → last.number + 1 ≡ number → number ≤ greatest_number → in_turn last (Some number) change ≡ change
turn last number change next fits =
    ap (λ b. if b then by_number number last change else answered bad_number)
    (and_from (nat_lt 0 number) (nat_le number greatest_number) (lt-ltb 0 number (omega (arith, next))) (le-leb number greatest_number fits))
    ∙ ap (λ b. if b then told last.reply else if number == last.number + 1 then change else if nat_lt number last.number then answered stale else answered (gap last.number))
    (ne_eqb number last.number (λ same. omega (arith, next, same)))
    ∙ ap (λ b. if b then change else if nat_lt number last.number then answered stale else answered (gap last.number))
    (eq-eqb number (last.number + 1) (sym next))

-- ---- one more call

-- the changes that a new desk accepted of a history
abbrev taken : List Asked → List Accepted
taken history = accepted_in new_desk history

accepted_more : (history : List Asked) (caller : Caller) (call : Call) (effect : Effect) (text : List ℕ)
    → outcome (own_view new_desk (taken history) caller) call ≡ accepted effect text
    → taken (asked caller call ∷ history) ≡ record { caller = caller; effect = effect; reply = text } ∷ taken history
accepted_more history caller call effect text is = ap (λ (o : Outcome). change_of caller o ++ taken history) is

-- what a client finds in a zone of this name after a history, and what else it sees
record Stands (client zone : List ℕ) (changes : List Accepted) (content : Content) (number : ℕ) (rows : Option (List ZoneRow)) (patterns received : List (List ℕ)) : Type 0 where
  content_is : content_left new_desk changes ≡ content
  number_is : (last_left new_desk (Client client) changes).number ≡ number
  rows_are : rows_left new_desk changes zone ≡ rows
  patterns_are : patterns_left new_desk changes zone ≡ patterns
  received_are : received_left new_desk changes ≡ received
  kept : AreKept new_desk changes

-- one change more of the client's
client_more : (client zone : List ℕ) (changes : List Accepted) (content : Content) (number : ℕ) (rows : Option (List ZoneRow)) (patterns received : List (List ℕ)) (effect : Effect) (text : List ℕ)
    → Stands client zone changes content number rows patterns received → IsOfZone (zones_left new_desk changes) effect
    → Stands client zone (record { caller = Client client; effect = effect; reply = text } ∷ changes)
    (content_after effect content) (number + 1) (unwrap_or (says_rows zone effect) rows) (unwrap_or (says_patterns zone effect) patterns) (received_after effect received)
client_more client zone changes content number rows patterns received effect text stands there =
    let change : Accepted = record { caller = Client client; effect = effect; reply = text } in
    record {
      content_is = content_more new_desk change changes ∙ ap (content_after effect) stands.content_is;
      number_is = ap (λ (last : LastChange). last.number) (last_more new_desk (Client client) change changes true (own_caller (Client client)))
          ∙ ap (λ n. n + 1) stands.number_is;
      rows_are = ap (unwrap_or (says_rows zone effect)) stands.rows_are;
      patterns_are = ap (unwrap_or (says_patterns zone effect)) stands.patterns_are;
      received_are = received_more new_desk change changes ∙ ap (received_after effect) stands.received_are;
      kept = kept_more new_desk change changes stands.kept there;
    }

-- the zone that the client finds
zone_found : (client zone : List ℕ) (changes : List Accepted) (content : Content) (number : ℕ) (rows : List ZoneRow) (patterns received : List (List ℕ))
    → Stands client zone changes content number (Some rows) patterns received
    → zone_named zone (zones_left new_desk changes) ≡ Some (record { rows = rows; patterns = patterns })
zone_found client zone changes content number rows patterns received stands =
    zone_is_left new_desk changes zone stands.kept
    ∙ ap (λ (o : Option (List ZoneRow)). option_map (λ rows. record { rows = rows; patterns = patterns_left new_desk changes zone }) o) stands.rows_are
    ∙ ap (λ (ps : List (List ℕ)). Some (record { rows = rows; patterns = ps })) stands.patterns_are

-- ---- publications

-- after publications a client has nothing
record Publishes (changes : List Accepted) (count : ℕ) (all : List Change) : Type 0 where
  published : publications changes ≡ all
  counted : (last_left new_desk Publisher changes).number ≡ count
  unchanged : (client : List ℕ) → (last_left new_desk (Client client) changes).number ≡ 0
  no_names : names_known new_desk changes ≡ []
  no_rows : (zone : List ℕ) → rows_left new_desk changes zone ≡ None
  no_patterns : (zone : List ℕ) → patterns_left new_desk changes zone ≡ []
  none_received : received_left new_desk changes ≡ []
  kept : AreKept new_desk changes

publishes_more : (changes : List Accepted) (count : ℕ) (all more : List Change) (text : List ℕ) → Publishes changes count all
    → Publishes (record { caller = Publisher; effect = publication more; reply = text } ∷ changes) (count + 1) (all ++ more)
publishes_more changes count all more text is =
    let change : Accepted = record { caller = Publisher; effect = publication more; reply = text } in
    record {
      published = ap (λ (cs : List Change). cs ++ more) is.published;
      counted = ap (λ (last : LastChange). last.number) (last_more new_desk Publisher change changes true refl) ∙ ap (λ n. n + 1) is.counted;
      unchanged = λ client. ap (λ (last : LastChange). last.number) (last_more new_desk (Client client) change changes false refl) ∙ is.unchanged client;
      no_names = is.no_names;
      no_rows = is.no_rows;
      no_patterns = is.no_patterns;
      none_received = is.none_received;
      kept = kept_more new_desk change changes is.kept tt;
    }

sorted_none : IsStrictlySortedBy name_order []
unfolding IsStrictlySortedBy
sorted_none = tt

publishes_none : Publishes [] 0 []
publishes_none = record {
  published = refl;
  counted = refl;
  unchanged = λ client. refl;
  no_names = refl;
  no_rows = λ zone. refl;
  no_patterns = λ zone. refl;
  none_received = refl;
  kept = record { sorted = sorted_none; unknown = λ name h. refl; bare = λ name h. refl };
}

-- one publication is accepted
publication_taken : (history : List Asked) (count : ℕ) (all more : List Change) (body : List ℕ) → Publishes (taken history) count all → changes_in body ≡ Ok more → count + 1 ≤ greatest_number
    → Publishes (taken (asked Publisher (publish (Some (count + 1)) body) ∷ history)) (count + 1) (all ++ more)
publication_taken history count all more body is says fits =
    subst (λ changes. Publishes changes (count + 1) (all ++ more))
    (sym (accepted_more history Publisher (publish (Some (count + 1)) body) (publication more) (publication_text more)
    (turn (last_left new_desk Publisher (taken history)) (count + 1) (said (changes_in body) (λ changes. accepted (publication changes) (publication_text changes)))
    (ap (λ n. n + 1) is.counted) fits
    ∙ ap (λ (result : Result (List Change) (List ℕ)). said result (λ changes. accepted (publication changes) (publication_text changes))) says)))
    (publishes_more (taken history) count all more (publication_text more) is)

-- all of them are
publications_taken : (bodies : List (List ℕ)) (history : List Asked) (count : ℕ) (before all : List Change) → Publishes (taken history) count before
    → published_from count bodies ≡ Ok all → count + length bodies ≤ greatest_number
    → Publishes (taken (publications_sent (count + 1) bodies ++ history)) (count + length bodies) (before ++ all)
publications_taken [] history count before all is says fits =
    subst (λ n. Publishes (taken history) n (before ++ all)) (omega arith)
    (subst (λ (cs : List Change). Publishes (taken history) count cs) (sym (ap (λ (cs : List Change). before ++ cs) (nothing says) ∙ append-nil before)) is)
  where
    nothing : ◌≡◌ {A = Result (List Change) Refused} (Ok []) (Ok all) → all ≡ []
    nothing e = cc e
publications_taken (body ∷ bodies) history count before all is says fits =
    let first = split (said_in (Publication count) (publication_in body)) _ all says in
    let rest = split (published_from (count + 1) bodies) _ all first.2 in
    let sooner = publication_taken history count before first.0 body is (with_any (reading_of body) (changes_in body) first.0 (with_lines (is_unended body) (text_of (of_input 75)) (statements_in body) first.0 (unsaid (Publication count) (publication_in body) first.0 first.1))) (omega (arith, fits)) in
    let later = publications_taken bodies (asked Publisher (publish (Some (count + 1)) body) ∷ history) (count + 1) (before ++ first.0) rest.0 sooner rest.1 (omega (arith, fits)) in
    subst (λ (asks : List Asked). Publishes (taken asks) (count + length (body ∷ bodies)) (before ++ all))
    (sym (append_assoc (publications_sent (count + 1 + 1) bodies) (asked Publisher (publish (Some (count + 1)) body) ∷ []) history))
    (subst (λ n. Publishes (taken (publications_sent (count + 1 + 1) bodies ++ (asked Publisher (publish (Some (count + 1)) body) ∷ history))) n (before ++ all)) (omega arith)
    (subst (λ (cs : List Change). Publishes (taken (publications_sent (count + 1 + 1) bodies ++ (asked Publisher (publish (Some (count + 1)) body) ∷ history))) (count + 1 + length bodies) cs)
    (append_assoc before first.0 rest.0 ∙ ap (λ (cs : List Change). before ++ cs) (whole first.0 rest.0 rest.2))
    later))
  where
    whole : (here later : List Change) → ◌≡◌ {A = Result (List Change) Refused} (Ok (here ++ later)) (Ok all) → here ++ later ≡ all
    whole here later e = cc e

-- ---- the client's lists

-- the zone is put
zone_taken : (client zone body : List ℕ) (history : List Asked) (count : ℕ) (all : List Change) (rows : List ZoneRow) → Publishes (taken history) count all → rows_in body ≡ Ok rows
    → Stands client zone (taken (asked (Client client) (put_zone (Some 1) zone body) ∷ history)) (content_of all) 1 (Some rows) [] []
zone_taken client zone body history count all rows is says =
    let changes = taken history in
    let before : Stands client zone changes (content_of all) 0 None [] [] = record {
      content_is = ap content_of is.published;
      number_is = is.unchanged client;
      rows_are = is.no_rows zone;
      patterns_are = is.no_patterns zone;
      received_are = is.none_received;
      kept = is.kept;
    } in
    let none : zones_left new_desk changes ≡ [] = ap (found (zone_left new_desk changes)) is.no_names in
    let accepts : outcome (own_view new_desk changes (Client client)) (put_zone (Some 1) zone body) ≡ accepted (zone_put zone rows) (zone_put_text zone rows) =
    turn (last_left new_desk (Client client) changes) 1 (put_of_zone (zones_left new_desk changes) zone body) (ap (λ n. n + 1) (is.unchanged client)) (omega arith)
    ∙ ap (λ (zones : Zones). put_of_zone zones zone body) none
    ∙ ap (λ (result : Result (List ZoneRow) (List ℕ)). said result (λ rows. accepted (zone_put zone rows) (zone_put_text zone rows))) says in
    let after = client_more client zone changes (content_of all) 0 None [] [] (zone_put zone rows) (zone_put_text zone rows) before tt in
    subst (λ changes. Stands client zone changes (content_of all) 1 (Some rows) [] [])
    (sym (accepted_more history (Client client) (put_zone (Some 1) zone body) (zone_put zone rows) (zone_put_text zone rows) accepts))
    (subst (λ (found : Option (List ZoneRow)). Stands client zone (record { caller = Client client; effect = zone_put zone rows; reply = zone_put_text zone rows } ∷ changes) (content_of all) 1 found [] [])
    (ap (λ (b : Bool). unwrap_or (if b then Some (Some rows) else None) None) (same_self zone)) after)

-- the patterns are put
patterns_taken : (client zone body : List ℕ) (history : List Asked) (content : Content) (number : ℕ) (rows : List ZoneRow) (before patterns received : List (List ℕ))
    → Stands client zone (taken history) content number (Some rows) before received → patterns_in body ≡ Ok patterns → number + 1 ≤ greatest_number
    → Stands client zone (taken (asked (Client client) (put_patterns (Some (number + 1)) zone body) ∷ history)) content (number + 1) (Some rows) patterns received
patterns_taken client zone body history content number rows before patterns received stands says fits =
    let changes = taken history in
    let named = zone_found client zone changes content number rows before received stands in
    let accepts : outcome (own_view new_desk changes (Client client)) (put_patterns (Some (number + 1)) zone body) ≡ accepted (patterns_put zone patterns) (patterns_text zone patterns) =
    turn (last_left new_desk (Client client) changes) (number + 1) (of_zone (zone_named zone (zones_left new_desk changes)) (λ table. said (patterns_in body) (λ patterns. accepted (patterns_put zone patterns) (patterns_text zone patterns))))
    (ap (λ n. n + 1) stands.number_is) fits
    ∙ ap (λ (found : Option ZoneTable). of_zone found (λ table. said (patterns_in body) (λ patterns. accepted (patterns_put zone patterns) (patterns_text zone patterns)))) named
    ∙ ap (λ (result : Result (List (List ℕ)) (List ℕ)). said result (λ patterns. accepted (patterns_put zone patterns) (patterns_text zone patterns))) says in
    let after = client_more client zone changes content number (Some rows) before received (patterns_put zone patterns) (patterns_text zone patterns) stands (ap (λ (o : Option ZoneTable). is_some o) named) in
    subst (λ changes. Stands client zone changes content (number + 1) (Some rows) patterns received)
    (sym (accepted_more history (Client client) (put_patterns (Some (number + 1)) zone body) (patterns_put zone patterns) (patterns_text zone patterns) accepts))
    (subst (λ (found : List (List ℕ)). Stands client zone (record { caller = Client client; effect = patterns_put zone patterns; reply = patterns_text zone patterns } ∷ changes) content (number + 1) (Some rows) found received)
    (ap (λ (b : Bool). unwrap_or (if b then Some patterns else None) before) (same_self zone)) after)

-- the received list is put
received_taken : (client zone body : List ℕ) (history : List Asked) (content : Content) (number : ℕ) (rows : Option (List ZoneRow)) (patterns before received : List (List ℕ))
    → Stands client zone (taken history) content number rows patterns before → ids_in body ≡ Ok received → number + 1 ≤ greatest_number
    → Stands client zone (taken (asked (Client client) (put_received (Some (number + 1)) body) ∷ history)) content (number + 1) rows patterns received
received_taken client zone body history content number rows patterns before received stands says fits =
    let changes = taken history in
    let accepts : outcome (own_view new_desk changes (Client client)) (put_received (Some (number + 1)) body) ≡ accepted (received_put received) (received_text received) =
    turn (last_left new_desk (Client client) changes) (number + 1) (said (ids_in body) (λ ids. accepted (received_put ids) (received_text ids)))
    (ap (λ n. n + 1) stands.number_is) fits
    ∙ ap (λ (result : Result (List (List ℕ)) (List ℕ)). said result (λ ids. accepted (received_put ids) (received_text ids))) says in
    subst (λ changes. Stands client zone changes content (number + 1) rows patterns received)
    (sym (accepted_more history (Client client) (put_received (Some (number + 1)) body) (received_put received) (received_text received) accepts))
    (client_more client zone changes content number rows patterns before (received_put received) (received_text received) stands tt)

-- after some calls what is said stands
record IsSent (client zone : List ℕ) (history : List Asked) (all : Said) : Type 0 where
  number : ℕ
  stands : Stands client zone (taken history) all.content number (Some all.rows) all.patterns all.received

received_sent : (client zone : List ℕ) (body : Option (List ℕ)) (history : List Asked) (number : ℕ) (rows : List ZoneRow) (patterns received : List (List ℕ)) (content : Content)
    → Stands client zone (taken history) content number (Some rows) patterns [] → received_said body ≡ Ok received → number + 1 ≤ greatest_number
    → IsSent client zone (list_sent client (number + 1) (λ number body. put_received (Some number) body) body ++ history) (record { rows = rows; patterns = patterns; received = received; content = content })
received_sent client zone None history number rows patterns received content stands says fits =
    record { number = number; stands = subst (λ (ids : List (List ℕ)). Stands client zone (taken history) content number (Some rows) patterns ids) (same says) stands }
  where
    same : ◌≡◌ {A = Result (List (List ℕ)) Refused} (Ok []) (Ok received) → [] ≡ received
    same e = cc e
received_sent client zone (Some body) history number rows patterns received content stands says fits = record {
  number = number + 1;
  stands = received_taken client zone body history content number (Some rows) patterns [] received stands (unlisted Received body (ids_in body) received says) fits;
}

lists_taken : (client zone : List ℕ) (categories received : Option (List ℕ)) (before : List Asked) (all : Said)
    → Stands client zone (taken before) all.content 1 (Some all.rows) [] [] → patterns_said categories ≡ Ok all.patterns → received_said received ≡ Ok all.received
    → IsSent client zone (lists_sent client zone categories received before) all
lists_taken client zone None received before all stands asks has =
    received_sent client zone received before 1 all.rows all.patterns all.received all.content
    (subst (λ (patterns : List (List ℕ)). Stands client zone (taken before) all.content 1 (Some all.rows) patterns []) (same asks) stands) has (omega arith)
  where
    same : ◌≡◌ {A = Result (List (List ℕ)) Refused} (Ok []) (Ok all.patterns) → [] ≡ all.patterns
    same e = cc e
lists_taken client zone (Some body) received before all stands asks has =
    received_sent client zone received (asked (Client client) (put_patterns (Some 2) zone body) ∷ before) 2 all.rows all.patterns all.received all.content
    (patterns_taken client zone body before all.content 1 all.rows [] all.patterns [] stands (unlisted Categories body (patterns_in body) all.patterns asks) (omega arith)) has (omega arith)

-- all inputs were sent, and what they say stands
module _ (client zone : List ℕ) (inputs : Inputs) where
  inputs_taken : (all : Said) → length inputs.publications ≤ greatest_number → said_by inputs ≡ Ok all → IsSent client zone (all_sent client zone inputs) all
  inputs_taken all fits says =
      let rows = split (rows_said inputs.zone) _ all says in
      let patterns = split (patterns_said inputs.categories) _ all rows.2 in
      let received = split (received_said inputs.received) _ all patterns.2 in
      let content = split (content_published inputs.publications) _ all received.2 in
      let changes = split (published_from 0 inputs.publications) _ content.0 content.1 in
      let published = publications_taken inputs.publications [] 0 [] changes.0 publishes_none changes.1 (omega (arith, fits)) in
      let listed : Publishes (taken (publications_sent 1 inputs.publications)) (0 + length inputs.publications) changes.0 =
      subst (λ (asks : List Asked). Publishes (taken asks) (0 + length inputs.publications) changes.0) (append-nil (publications_sent 1 inputs.publications)) published in
      let zone_sent = asked (Client client) (put_zone (Some 1) zone inputs.zone) ∷ publications_sent 1 inputs.publications in
      let stands = zone_taken client zone inputs.zone (publications_sent 1 inputs.publications) (0 + length inputs.publications) changes.0 rows.0 listed (unlisted Zone inputs.zone (rows_in inputs.zone) rows.0 rows.1) in
      subst (IsSent client zone (all_sent client zone inputs)) (whole rows.0 patterns.0 received.0 content.0 content.2)
      (lists_taken client zone inputs.categories inputs.received zone_sent (record { rows = rows.0; patterns = patterns.0; received = received.0; content = content.0 })
      (subst (λ (content : Content). Stands client zone (taken zone_sent) content 1 (Some rows.0) [] []) (left changes.0 content.0 changes.2) stands) patterns.1 received.1)
    where
      whole : (rows : List ZoneRow) (patterns received : List (List ℕ)) (content : Content)
          → ◌≡◌ {A = Result Said Refused} (Ok (record { rows = rows; patterns = patterns; received = received; content = content })) (Ok all)
          → ◌≡◌ {A = Said} (record { rows = rows; patterns = patterns; received = received; content = content }) all
      whole rows patterns received content e = cc e

      left : (changes : List Change) (content : Content) → ◌≡◌ {A = Result Content Refused} (Ok (content_of changes)) (Ok content) → content_of changes ≡ content
      left changes content e = cc e

  -- what the client is told then
  module _ (all : Said) (sent : IsSent client zone (all_sent client zone inputs) all) where
    err_told : own_answer new_desk (all_sent client zone inputs) (Client client) (report_on ErrSysmods (Rows Text) zone) ≡ plain 200 (err_text_said zone all)
    err_told =
        let content = content_left new_desk (taken (all_sent client zone inputs)) in
        let received = received_left new_desk (taken (all_sent client zone inputs)) in
        ap (λ (found : Option ZoneTable). answer_of (of_zone found (λ table. told (report_text ErrSysmods (Rows Text) content zone table received))))
        (zone_found client zone (taken (all_sent client zone inputs)) all.content sent.number all.rows all.patterns all.received sent.stands)
        ∙ ap (λ (content : Content). plain 200 (report_text ErrSysmods (Rows Text) content zone (zone_said all) received)) sent.stands.content_is
        ∙ ap (λ (ids : List (List ℕ)). plain 200 (report_text ErrSysmods (Rows Text) all.content zone (zone_said all) ids)) sent.stands.received_are

    missing_told : own_answer new_desk (all_sent client zone inputs) (Client client) (report_on MissingFix (Rows Text) zone) ≡ plain 200 (missing_text_said zone all)
    missing_told =
        let content = content_left new_desk (taken (all_sent client zone inputs)) in
        let received = received_left new_desk (taken (all_sent client zone inputs)) in
        ap (λ (found : Option ZoneTable). answer_of (of_zone found (λ table. told (report_text MissingFix (Rows Text) content zone table received))))
        (zone_found client zone (taken (all_sent client zone inputs)) all.content sent.number all.rows all.patterns all.received sent.stands)
        ∙ ap (λ (content : Content). plain 200 (report_text MissingFix (Rows Text) content zone (zone_said all) received)) sent.stands.content_is
        ∙ ap (λ (ids : List (List ℕ)). plain 200 (report_text MissingFix (Rows Text) all.content zone (zone_said all) ids)) sent.stands.received_are

    chain_told : (sysmod : List ℕ) → own_answer new_desk (all_sent client zone inputs) (Client client) (chain zone sysmod) ≡ as_json (chain_text_said zone sysmod all)
    chain_told sysmod =
        let content = content_left new_desk (taken (all_sent client zone inputs)) in
        ap (λ (found : Option ZoneTable). answer_of (of_zone found (λ table. answered (as_json (chain_text content zone table sysmod)))))
        (zone_found client zone (taken (all_sent client zone inputs)) all.content sent.number all.rows all.patterns all.received sent.stands)
        ∙ ap (λ (content : Content). as_json (chain_text content zone (zone_said all) sysmod)) sent.stands.content_is

same_text : (text other : List ℕ) → ◌≡◌ {A = Result (List ℕ) Refused} (Ok text) (Ok other) → text ≡ other
same_text text other e = cc e

-- ---- the law

-- A vector has fewer items than a desk has numbers.
pub few_enough : {V : Type 0} (f : V → List ℕ) (vec : Vec V) (inputs : Inputs) → inputs.publications ≡ map f vec.items → length inputs.publications ≤ greatest_number
few_enough f vec inputs are =
    let same = ap length are ∙ length-map vec.items f in
    let held = vec.ok.0 in
    let within = vec.ok.1 in
    let small = vec.small in
    omega (arith, same, held, within, small)

pub err_answered : (zone : List ℕ) (inputs : Inputs) (text : List ℕ) → length inputs.publications ≤ greatest_number → made_from (err_text_said zone) inputs ≡ Ok text → IsDesksAnswer zone inputs (report_on ErrSysmods (Rows Text) zone) (plain 200 text)
err_answered zone inputs text fits says = λ client.
    let all = split (said_by inputs) _ text says in
    err_told client zone inputs all.0 (inputs_taken client zone inputs all.0 fits all.1) ∙ ap (plain 200) (same_text (err_text_said zone all.0) text all.2)

pub missing_answered : (zone : List ℕ) (inputs : Inputs) (text : List ℕ) → length inputs.publications ≤ greatest_number → made_from (missing_text_said zone) inputs ≡ Ok text → IsDesksAnswer zone inputs (report_on MissingFix (Rows Text) zone) (plain 200 text)
missing_answered zone inputs text fits says = λ client.
    let all = split (said_by inputs) _ text says in
    missing_told client zone inputs all.0 (inputs_taken client zone inputs all.0 fits all.1) ∙ ap (plain 200) (same_text (missing_text_said zone all.0) text all.2)

pub chain_answered : (zone sysmod : List ℕ) (inputs : Inputs) (text : List ℕ) → length inputs.publications ≤ greatest_number → made_from (chain_text_said zone sysmod) inputs ≡ Ok text → IsDesksAnswer zone inputs (chain zone sysmod) (as_json text)
chain_answered zone sysmod inputs text fits says = λ client.
    let all = split (said_by inputs) _ text says in
    chain_told client zone inputs all.0 (inputs_taken client zone inputs all.0 fits all.1) sysmod ∙ ap as_json (same_text (chain_text_said zone sysmod all.0) text all.2)
