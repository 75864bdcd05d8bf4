-- Each caller alone over a course, also one who came in it.
use Rattle.std.proofs.Common.{Err, Ok, ◌≡◌, ◌⊎◌, ◌∙◌, ◌&&◌, ◌||◌, ℕ, not, Bool, true, false, List, [], ◌∷◌, ◌++◌, ap, append-nil, inl, inr, refl, subst, sym}
use Rattle.std.specs.Prelude.{◌+◌, if◌then◌else◌}
use Rattle.std.specs.List.Sorted.{IsStrictlySortedBy}
use Rattle.bureau_store.specs.Caller.{is_caller}
use Rattle.bureau_store.specs.SetCallers.{comes_or_goes, has_name, name_of, with_callers}
use Rattle.bureau_store.specs.Tables.{AreInOrder, Tables, name_order, no_change}
use Rattle.bureau_store.specs.declared.caller.Caller.{Caller}
use Rattle.bureau_store.specs.declared.caller.Caller.TheVariants.{Publisher, Client}
use Rattle.bureau_store.specs.declared.caller.CallerRow.{CallerRow}
use Rattle.bureau.specs.Alone.{opening_of, own_history}
use Rattle.bureau.specs.Call.{Call}
use Rattle.bureau.specs.Course.{Called, Callers, IsCourse, IsInBoth, Stage, Stays, callers_after, calls_in, opening_of_newcomer}
use Rattle.bureau.specs.Joint.{CallBy, IsStep, tables_left}
use Rattle.bureau.specs.Outcome.{Answer, Outcome, accepted, answer_of, answered, no_room, outcome}
use Rattle.bureau.specs.Own.{Accepted, Asked, Opening, accepted_in, own_answer}
use Rattle.bureau.specs.View.{view_of}
use Rattle.bureau.proofs.AgreesFacts.{Agrees, agrees_at_first, call_agrees, call_alone, history_after, history_more, with_call}
use Rattle.bureau.proofs.CourseFacts.{course_callers, split_course, stays}
use Rattle.bureau.proofs.RunFacts.{step_callers}
use Rattle.bureau_http.specs.Asked.{What}
use Rattle.bureau_http.specs.Exchange.{call_from, exchange_text}
use Rattle.bureau_program.specs.RunsAlone.{AreOwnReplies, HasCome, IsAloneThroughout}

-- ---- who stays

stays_front : (caller : Caller) (callers : List CallerRow) (before rest : List Stage) → Stays caller callers (before ++ rest) → Stays caller callers before
stays_front caller callers [] rest all = tt
stays_front caller callers (Called call_by ∷ before) rest all = stays_front caller callers before rest all
stays_front caller callers (Callers rows ∷ before) rest all = (all.0, stays_front caller rows before rest all.1)

stays_back : (caller : Caller) (callers : List CallerRow) (before rest : List Stage) → Stays caller callers (before ++ rest) → Stays caller (callers_after callers before) rest
stays_back caller callers [] rest all = all
stays_back caller callers (Called call_by ∷ before) rest all = stays_back caller callers before rest all
stays_back caller callers (Callers rows ∷ before) rest all = stays_back caller rows before rest all.1

-- ---- other callers

-- what a caller and the publisher, who both stay, see of the tables
agrees_with : (viewer : Caller) (opening : Opening) (changes : List Accepted) (now : Tables) (rows : List CallerRow) → IsInBoth Publisher now.callers rows
    → comes_or_goes now.callers rows (name_of viewer) ≡ false → Agrees viewer opening changes now → Agrees viewer opening changes (with_callers rows now)
agrees_with viewer opening changes now rows publisher still agrees = record {
  content = agrees.content;
  publisher = agrees.publisher ∙ sym (ap (λ (b : Bool). if b then no_change else now.last Publisher) (stays Publisher now.callers rows publisher));
  own = agrees.own ∙ sym (ap (λ (b : Bool). if b then no_change else now.last viewer) still);
  zones = λ name is.
      let named = subst (λ caller. comes_or_goes now.callers rows (name_of caller) ≡ false) is still in
      agrees.zones name is ∙ sym (ap (λ (b : Bool). if b then [] else now.zones name) named);
  received = λ name is.
      let named = subst (λ caller. comes_or_goes now.callers rows (name_of caller) ≡ false) is still in
      agrees.received name is ∙ sym (ap (λ (b : Bool). if b then [] else now.received name) named);
  kept = agrees.kept;
}

-- from tables that agree with a history on, a caller who stays is answered as if alone
alone_on : (viewer : Caller) (opening : Opening) (stages : List Stage) (history : List Asked) (now at : Tables) (call_by : CallBy) (next : Tables)
    → Agrees viewer opening (accepted_in opening history) now → Stays Publisher now.callers stages → Stays viewer now.callers stages → IsCourse now stages at
    → IsStep at call_by next → call_by.caller ≡ viewer
    → (call_by.answer ≡ no_room) ⊎ (call_by.answer ≡ own_answer opening (history_after viewer (calls_in stages) history) viewer call_by.call)
alone_on viewer opening [] history now at call_by next agrees publisher own course step is =
    call_alone viewer opening history now call_by next (subst (λ (this : Tables). IsStep this call_by next) course step) is agrees
alone_on viewer opening (Callers rows ∷ stages) history now at call_by next agrees publisher own course step is =
    let same : course.0 ≡ with_callers rows now = course.1 in
    alone_on viewer opening stages history course.0 at call_by next
    (subst (Agrees viewer opening (accepted_in opening history)) (sym same)
    (agrees_with viewer opening (accepted_in opening history) now rows publisher.0 (stays viewer now.callers rows own.0) agrees))
    (subst (λ (this : Tables). Stays Publisher this.callers stages) (sym same) publisher.1) (subst (λ (this : Tables). Stays viewer this.callers stages) (sym same) own.1) course.2 step is
alone_on viewer opening (Called first ∷ stages) history now at call_by next agrees publisher own course step is =
    let callers = step_callers now course.0 first course.1 in
    subst (λ h. (call_by.answer ≡ no_room) ⊎ (call_by.answer ≡ own_answer opening h viewer call_by.call)) (history_more viewer first (calls_in stages) history)
    (alone_on viewer opening stages (with_call viewer first history) course.0 at call_by next (call_agrees viewer opening history now first course.0 course.1 agrees)
    (subst (λ rows. Stays Publisher rows stages) (sym callers) publisher) (subst (λ rows. Stays viewer rows stages) (sym callers) own) course.2 step is)

-- ---- who comes

sorted_none : IsStrictlySortedBy name_order []
unfolding IsStrictlySortedBy
sorted_none = tt

module _ (name : List ℕ) (opening : Tables) where
  -- Tables in which a client has nothing show the publisher what these show.
  record IsBare (history : List Asked) (now : Tables) : Type 0 where
    pub seen : Agrees Publisher (opening_of Publisher opening) (accepted_in (opening_of Publisher opening) history) now
    pub bare : Tables
    pub agrees : Agrees (Client name) (opening_of_newcomer opening) (accepted_in (opening_of_newcomer opening) history) bare
    pub content : bare.content ≡ now.content
    pub publisher : bare.last Publisher ≡ now.last Publisher
    pub own : bare.last (Client name) ≡ no_change
    pub zones : bare.zones name ≡ []
    pub received : bare.received name ≡ []

  bare_first : AreInOrder opening → IsBare [] opening
  bare_first ordered =
      let bare : Tables = record {
        callers = [];
        content = opening.content;
        last = λ caller. if is_caller caller Publisher then opening.last Publisher else no_change;
        zones = λ client. [];
        received = λ client. [];
      } in
      record {
        seen = agrees_at_first Publisher opening ordered;
        bare = bare;
        agrees = agrees_at_first (Client name) bare (record { content = ordered.content; zones = λ client. sorted_none });
        content = refl;
        publisher = refl;
        own = refl;
        zones = refl;
        received = refl;
      }

  -- what is left for the publisher by its own call
  module _ (a b : Tables) (content : a.content ≡ b.content) (publisher : a.last Publisher ≡ b.last Publisher) where
    same_view : view_of Publisher a ≡ view_of Publisher b
    same_view = λ i. record { caller = Publisher; content = content i; last = publisher i; zones = []; received = [] }

    content_left : (come : Outcome) → (tables_left Publisher come a).content ≡ (tables_left Publisher come b).content
    content_left (answered answer) = content
    content_left (accepted effect text) = ap (λ c. (tables_left Publisher (accepted effect text) (record a { content = c })).content) content

    last_left : (come : Outcome) → (tables_left Publisher come a).last Publisher ≡ (tables_left Publisher come b).last Publisher
    last_left (answered answer) = publisher
    last_left (accepted effect text) = ap (λ last. record { number = last.number + 1; reply = text }) publisher

  own_left : (come : Outcome) (a : Tables) → (tables_left Publisher come a).last (Client name) ≡ a.last (Client name)
  own_left (answered answer) a = refl
  own_left (accepted effect text) a = refl

  zones_left : (come : Outcome) (a : Tables) → (tables_left Publisher come a).zones name ≡ a.zones name
  zones_left (answered answer) a = refl
  zones_left (accepted effect text) a = refl

  received_left : (come : Outcome) (a : Tables) → (tables_left Publisher come a).received name ≡ a.received name
  received_left (answered answer) a = refl
  received_left (accepted effect text) a = refl

  -- a call leaves them so
  bare_step : (history : List Asked) (now new : Tables) (caller : Caller) (call : Call) (answer : Answer) → IsStep now (record { caller = caller; call = call; answer = answer }) new
      → IsBare history now → IsBare (with_call Publisher (record { caller = caller; call = call; answer = answer }) history) new
  bare_step history now new (Client other) call answer step it =
      let called : CallBy = record { caller = Client other; call = call; answer = answer } in
      let seen : Agrees Publisher (opening_of Publisher opening) (accepted_in (opening_of Publisher opening) history) new =
      call_agrees Publisher (opening_of Publisher opening) history now called new step it.seen in
      record {
        seen = seen;
        bare = it.bare;
        agrees = it.agrees;
        content = it.content ∙ sym it.seen.content ∙ seen.content;
        publisher = it.publisher ∙ sym it.seen.publisher ∙ seen.publisher;
        own = it.own;
        zones = it.zones;
        received = it.received;
      }
  bare_step history now new Publisher call answer (inl refused) it =
      let called : CallBy = record { caller = Publisher; call = call; answer = answer } in
      record {
        seen = call_agrees Publisher (opening_of Publisher opening) history now called new (inl refused) it.seen;
        bare = it.bare;
        agrees = call_agrees (Client name) (opening_of_newcomer opening) history it.bare called it.bare (inl (refused.0, refl)) it.agrees;
        content = it.content ∙ sym (ap (λ (this : Tables). this.content) refused.1);
        publisher = it.publisher ∙ sym (ap (λ (this : Tables). this.last Publisher) refused.1);
        own = it.own;
        zones = it.zones;
        received = it.received;
      }
  bare_step history now new Publisher call answer (inr taken) it =
      let called : CallBy = record { caller = Publisher; call = call; answer = answer } in
      let view = same_view it.bare now it.content it.publisher in
      let come = outcome (view_of Publisher now) call in
      let left = tables_left Publisher come it.bare in
      let step : IsStep it.bare called left =
      inr (taken.0 ∙ ap (λ seen. answer_of (outcome seen call)) (sym view), ap (λ seen. tables_left Publisher (outcome seen call) it.bare) (sym view)) in
      record {
        seen = call_agrees Publisher (opening_of Publisher opening) history now called new (inr taken) it.seen;
        bare = left;
        agrees = call_agrees (Client name) (opening_of_newcomer opening) history it.bare called left step it.agrees;
        content = content_left it.bare now it.content it.publisher come ∙ sym (ap (λ (this : Tables). this.content) taken.1);
        publisher = last_left it.bare now it.content it.publisher come ∙ sym (ap (λ (this : Tables). this.last Publisher) taken.1);
        own = own_left come it.bare ∙ it.own;
        zones = zones_left come it.bare ∙ it.zones;
        received = received_left come it.bare ∙ it.received;
      }

  -- so do other callers, while the publisher stays
  bare_callers : (history : List Asked) (now : Tables) (rows : List CallerRow) → IsInBoth Publisher now.callers rows → IsBare history now → IsBare history (with_callers rows now)
  bare_callers history now rows both it =
      let still = stays Publisher now.callers rows both in
      record {
        seen = agrees_with Publisher (opening_of Publisher opening) (accepted_in (opening_of Publisher opening) history) now rows both still it.seen;
        bare = it.bare;
        agrees = it.agrees;
        content = it.content;
        publisher = it.publisher ∙ sym (ap (λ (b : Bool). if b then no_change else now.last Publisher) still);
        own = it.own;
        zones = it.zones;
        received = it.received;
      }

  bare_course : (stages : List Stage) (history : List Asked) (now at : Tables) → IsCourse now stages at → Stays Publisher now.callers stages → IsBare history now
      → IsBare (history_after Publisher (calls_in stages) history) at
  bare_course [] history now at course publisher it = subst (IsBare history) (sym course) it
  bare_course (Called first ∷ stages) history now at course publisher it =
      subst (λ h. IsBare h at) (history_more Publisher first (calls_in stages) history)
      (bare_course stages (with_call Publisher first history) course.0 at course.2 (subst (λ rows. Stays Publisher rows stages) (sym (step_callers now course.0 first course.1)) publisher)
      (bare_step history now course.0 first.caller first.call first.answer course.1 it))
  bare_course (Callers rows ∷ stages) history now at course publisher it =
      let same : course.0 ≡ with_callers rows now = course.1 in
      bare_course stages history course.0 at course.2 (subst (λ (this : Tables). Stays Publisher this.callers stages) (sym same) publisher.1)
      (subst (IsBare history) (sym same) (bare_callers history now rows publisher.0 it))

  -- the client comes, and finds nothing of its own
  has_come : (history : List Asked) (now : Tables) (rows : List CallerRow) → IsInBoth Publisher now.callers rows → comes_or_goes now.callers rows name ≡ true → IsBare history now
      → Agrees (Client name) (opening_of_newcomer opening) (accepted_in (opening_of_newcomer opening) history) (with_callers rows now)
  has_come history now rows both comes it = record {
    content = it.agrees.content ∙ it.content;
    publisher = it.agrees.publisher ∙ it.publisher ∙ sym (ap (λ (b : Bool). if b then no_change else now.last Publisher) (stays Publisher now.callers rows both));
    own = it.agrees.own ∙ it.own ∙ sym (ap (λ (b : Bool). if b then no_change else now.last (Client name)) comes);
    zones = λ other is.
        it.agrees.zones other is
        ∙ subst (λ n. it.bare.zones n ≡ (with_callers rows now).zones n) (named other is) (it.zones ∙ sym (ap (λ (b : Bool). if b then [] else now.zones name) comes));
    received = λ other is.
        it.agrees.received other is
        ∙ subst (λ n. it.bare.received n ≡ (with_callers rows now).received n) (named other is) (it.received ∙ sym (ap (λ (b : Bool). if b then [] else now.received name) comes));
    kept = it.agrees.kept;
  }
    where
      named : (other : List ℕ) → Client name ≡ Client other → name ≡ other
      named other is = cc

-- who is among the second callers alone comes
comes : (callers rows : List CallerRow) (name : List ℕ) → has_name callers name ≡ false → has_name rows name ≡ true → comes_or_goes callers rows name ≡ true
comes callers rows name none there =
    ap (λ (a : Bool). (has_name rows name && not a) || (a && not (has_name rows name))) none ∙ ap (λ (b : Bool). (b && true) || (false && not b)) there

-- ---- of a course

module _ (opening : Tables) (ordered : AreInOrder opening) where
  from_first : (before : List Stage) (at : Tables) (call_by : CallBy) (next : Tables) → IsCourse opening before at → IsStep at call_by next
      → Stays Publisher opening.callers before → Stays call_by.caller opening.callers before
      → (call_by.answer ≡ no_room) ⊎ (call_by.answer ≡ own_answer (opening_of call_by.caller opening) (own_history call_by.caller (calls_in before)) call_by.caller call_by.call)
  from_first before at call_by next course step publisher own =
      let viewer = call_by.caller in
      subst (λ h. (call_by.answer ≡ no_room) ⊎ (call_by.answer ≡ own_answer (opening_of viewer opening) h viewer call_by.call)) (append-nil (own_history viewer (calls_in before)))
      (alone_on viewer (opening_of viewer opening) before [] opening at call_by next (agrees_at_first viewer opening ordered) publisher own course step refl)

  from_coming : (before : List Stage) (at : Tables) (call_by : CallBy) (next : Tables) → IsCourse opening before at → IsStep at call_by next → Stays Publisher opening.callers before
      → (found : Opening) (history : List Asked) → HasCome call_by.caller opening before found history
      → (call_by.answer ≡ no_room) ⊎ (call_by.answer ≡ own_answer found history call_by.caller call_by.call)
  from_coming before at call_by next course step publisher found history come =
      let viewer = call_by.caller in
      let name = come.name in
      let parts = split_course come.earlier (Callers come.rows ∷ come.since) opening at (subst (λ l. IsCourse opening l at) come.are course) in
      let there = subst (Stays Publisher opening.callers) come.are publisher in
      let both = subst (λ rows. Stays Publisher rows (Callers come.rows ∷ come.since)) (sym (course_callers come.earlier opening parts.0 parts.1))
      (stays_back Publisher opening.callers come.earlier (Callers come.rows ∷ come.since) there) in
      let none = ap (λ rows. has_name rows name) (course_callers come.earlier opening parts.0 parts.1) ∙ come.was_none in
      let same : parts.2.0 ≡ with_callers come.rows parts.0 = parts.2.1 in
      let bare = bare_course name opening come.earlier [] opening parts.0 parts.1 (stays_front Publisher opening.callers come.earlier (Callers come.rows ∷ come.since) there)
      (bare_first name opening ordered) in
      let earlier : List Asked = history_after Publisher (calls_in come.earlier) [] in
      let agrees = subst (Agrees (Client name) (opening_of_newcomer opening) (accepted_in (opening_of_newcomer opening) earlier)) (sym same)
      (has_come name opening earlier parts.0 come.rows both.0 (comes parts.0.callers come.rows name none come.is_one) bare) in
      let own = subst (λ (this : Tables). Stays viewer this.callers come.since) (sym same) come.stays in
      let answer = alone_on viewer (opening_of_newcomer opening) come.since earlier parts.2.0 at call_by next
      (subst (λ who. Agrees who (opening_of_newcomer opening) (accepted_in (opening_of_newcomer opening) earlier) parts.2.0) (sym come.viewer_is) agrees)
      (subst (λ (this : Tables). Stays Publisher this.callers come.since) (sym same) both.1) own parts.2.2 step refl in
      let counted : history_after viewer (calls_in come.since) earlier ≡ history =
      ap (λ h. own_history viewer (calls_in come.since) ++ h) (append-nil (own_history Publisher (calls_in come.earlier))) ∙ sym come.history_is in
      subst (λ o. (call_by.answer ≡ no_room) ⊎ (call_by.answer ≡ own_answer o history viewer call_by.call)) (sym come.found_is)
      (subst (λ h. (call_by.answer ≡ no_room) ⊎ (call_by.answer ≡ own_answer (opening_of_newcomer opening) h viewer call_by.call)) counted answer)

  pub alone_throughout : (closing : Tables) (stages : List Stage) → IsCourse opening stages closing → IsAloneThroughout opening stages
  alone_throughout closing stages course before call_by after found history are publisher counts =
      let parts = split_course before (Called call_by ∷ after) opening closing (subst (λ l. IsCourse opening l closing) are course) in
      by parts.0 parts.2.0 parts.1 parts.2.1 publisher counts
    where
      by : (at next : Tables) → IsCourse opening before at → IsStep at call_by next → Stays Publisher opening.callers before
          → (Stays call_by.caller opening.callers before × (found ≡ opening_of call_by.caller opening) × (history ≡ own_history call_by.caller (calls_in before)))
          ⊎ HasCome call_by.caller opening before found history
          → (call_by.answer ≡ no_room) ⊎ (call_by.answer ≡ own_answer found history call_by.caller call_by.call)
      by at next course step there (inl always) =
          subst (λ h. (call_by.answer ≡ no_room) ⊎ (call_by.answer ≡ own_answer found h call_by.caller call_by.call)) (sym always.2)
          (subst (λ o. (call_by.answer ≡ no_room) ⊎ (call_by.answer ≡ own_answer o (own_history call_by.caller (calls_in before)) call_by.caller call_by.call)) (sym always.1)
          (from_first before at call_by next course step there always.0))
      by at next course step there (inr come) = from_coming before at call_by next course step there found history come

-- ---- to the byte

-- the call that a request made has its answer
same_answer : (what : What) (answer : Answer) (call_by : CallBy) → call_from what answer ≡ call_by ∷ [] → answer ≡ call_by.answer
same_answer (Ok call) answer call_by is =
    let one : ◌≡◌ {A = CallBy} (record { caller = call.0; call = call.1; answer = answer }) call_by = cc in ap (λ (it : CallBy). it.answer) one
same_answer (Err refusal) answer call_by is = absurd (cc)

pub own_replies : (opening : Tables) (stages : List Stage) → IsAloneThroughout opening stages → AreOwnReplies opening stages
own_replies opening stages alone before exchange call_by after found history are makes publisher counts =
    by (alone before call_by after found history are publisher counts)
  where
    same : exchange.answer ≡ call_by.answer
    same = same_answer exchange.asked.what exchange.answer call_by makes

    by : (call_by.answer ≡ no_room) ⊎ (call_by.answer ≡ own_answer found history call_by.caller call_by.call)
        → (exchange.answer ≡ no_room)
        ⊎ (exchange_text exchange ≡ exchange_text (record { asked = exchange.asked; answer = own_answer found history call_by.caller call_by.call }))
    by (inl none) = inl (same ∙ none)
    by (inr own) = inr (ap (λ answer. exchange_text (record { asked = exchange.asked; answer = answer })) (same ∙ own))
