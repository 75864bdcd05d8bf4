-- A course of calls and of other callers, one stage after the other.
use Rattle.std.proofs.Common.{◌≡◌, ◌⊎◌, ◌∙◌, ◌&&◌, ◌||◌, ℕ, not, Bool, true, false, List, [], ◌∷◌, ◌++◌, ap, append-nil, map, refl, subst, sym, if◌then◌else◌}
use Rattle.bureau_store.specs.SetCallers.{comes_or_goes, has_name, name_of, with_callers}
use Rattle.bureau_store.specs.Tables.{AreInOrder, Tables, no_change}
use Rattle.bureau_store.specs.declared.caller.Caller.{Caller}
use Rattle.bureau_store.specs.declared.caller.Caller.TheVariants.{Publisher, Client}
use Rattle.bureau_store.specs.declared.caller.CallerRow.{CallerRow}
use Rattle.bureau.specs.Alone.{opening_of, own_history}
use Rattle.bureau.specs.Course.{Called, Callers, IsAloneWhereItStays, IsCourse, IsInBoth, Stays, Stage, callers_after, calls_in, opening_of_newcomer}
use Rattle.bureau.specs.Joint.{CallBy, IsRun, IsStep}
use Rattle.bureau.specs.Outcome.{no_room}
use Rattle.bureau.specs.Own.{Accepted, Asked, Opening, accepted_in, own_answer}
use Rattle.bureau.proofs.AgreesFacts.{Agrees, Reached, agrees_at_first, call_agrees, call_alone, history_after, history_more, with_call}
use Rattle.bureau.proofs.RunFacts.{step_callers}

-- ---- other callers

-- who is among both neither comes nor goes
stays_so : (a b : Bool) → a ≡ true → b ≡ true → ((b && not a) || (a && not b)) ≡ false
stays_so true true here there = refl
stays_so true false here there = cc
stays_so false b here there = cc

pub stays : (caller : Caller) (callers rows : List CallerRow) → IsInBoth caller callers rows → comes_or_goes callers rows (name_of caller) ≡ false
stays caller callers rows both = stays_so (has_name callers (name_of caller)) (has_name rows (name_of caller)) both.0 both.1

-- what the tables show to the publisher and to a caller who stays is as it was
callers_agree : (viewer : Caller) (opening : Opening) (changes : List Accepted) (now : Tables) (rows : List CallerRow) → IsInBoth Publisher now.callers rows → IsInBoth viewer now.callers rows
    → Agrees viewer opening changes now → Agrees viewer opening changes (with_callers rows now)
callers_agree viewer opening changes now rows publisher own agrees = record {
  content = agrees.content;
  publisher = agrees.publisher ∙ sym (ap (λ (b : Bool). if b then no_change else now.last Publisher) (stays Publisher now.callers rows publisher));
  own = agrees.own ∙ sym (ap (λ (b : Bool). if b then no_change else now.last viewer) (stays viewer now.callers rows own));
  zones = λ name is. agrees.zones name is ∙ sym (ap (λ (b : Bool). if b then [] else now.zones name) (named name is));
  received = λ name is. agrees.received name is ∙ sym (ap (λ (b : Bool). if b then [] else now.received name) (named name is));
  kept = agrees.kept;
}
  where
    named : (name : List ℕ) → viewer ≡ Client name → comes_or_goes now.callers rows name ≡ false
    named name is = ap (λ caller. comes_or_goes now.callers rows (name_of caller)) (sym is) ∙ stays viewer now.callers rows own

-- ---- a course

-- a run is a course
pub course_of : (calls : List CallBy) (a b : Tables) → IsRun a calls b → IsCourse a (map Called calls) b
course_of [] a b run = run
course_of (call_by ∷ calls) a b run = (run.0, run.1, course_of calls run.0 b run.2)

-- two courses, one after the other
pub join_courses : (a b c : Tables) (xs ys : List Stage) → IsCourse a xs b → IsCourse b ys c → IsCourse a (xs ++ ys) c
join_courses a b c [] ys first second = subst (λ at. IsCourse at ys c) first second
join_courses a b c (x ∷ xs) ys first second = (first.0, first.1, join_courses first.0 b c xs ys first.2 second)

pub split_course : (before rest : List Stage) (old new : Tables) → IsCourse old (before ++ rest) new → (at : Tables) × IsCourse old before at × IsCourse at rest new
split_course [] rest old new course = (old, refl, course)
split_course (stage ∷ before) rest old new course =
    let more = split_course before rest course.0 new course.2 in (more.0, (course.0, course.1, more.1), more.2)

-- the callers that there are after it
pub course_callers : (stages : List Stage) (old new : Tables) → IsCourse old stages new → new.callers ≡ callers_after old.callers stages
course_callers [] old new course = ap (λ (this : Tables). this.callers) course
course_callers (Called call_by ∷ stages) old new course =
    course_callers stages course.0 new course.2 ∙ ap (λ rows. callers_after rows stages) (step_callers old course.0 call_by course.1)
course_callers (Callers rows ∷ stages) old new course =
    course_callers stages course.0 new course.2 ∙ ap (λ (this : Tables). callers_after this.callers stages) course.1

-- ---- alone

reached : (viewer : Caller) (opening : Opening) (stages : List Stage) (before : List CallBy) (history : List Asked) (now closing : Tables) (call_by : CallBy) (after : List CallBy)
    → Agrees viewer opening (accepted_in opening history) now → Stays Publisher now.callers stages → Stays viewer now.callers stages → IsCourse now stages closing
    → calls_in stages ≡ before ++ call_by ∷ after → Reached viewer opening (history_after viewer before history) call_by
reached viewer opening [] before history now closing call_by after agrees publisher own course is = by before is
  where
    by : (bs : List CallBy) → ◌≡◌ {A = List CallBy} [] (bs ++ call_by ∷ after) → Reached viewer opening (history_after viewer bs history) call_by
    by [] same = cc
    by (b ∷ bs) same = cc
reached viewer opening (Callers rows ∷ stages) before history now closing call_by after agrees publisher own course is =
    let same : course.0 ≡ with_callers rows now = course.1 in
    reached viewer opening stages before history course.0 closing call_by after
    (subst (Agrees viewer opening (accepted_in opening history)) (sym same) (callers_agree viewer opening (accepted_in opening history) now rows publisher.0 own.0 agrees))
    (subst (λ (this : Tables). Stays Publisher this.callers stages) (sym same) publisher.1) (subst (λ (this : Tables). Stays viewer this.callers stages) (sym same) own.1) course.2 is
reached viewer opening (Called first ∷ stages) [] history now closing call_by after agrees publisher own course is =
    let same : first ≡ call_by = cc in
    record { now = now; next = course.0; agrees = agrees; step = subst (λ c. IsStep now c course.0) same course.1 }
reached viewer opening (Called first ∷ stages) (next ∷ before) history now closing call_by after agrees publisher own course is =
    let same : first ≡ next = cc in
    let rest : calls_in stages ≡ before ++ call_by ∷ after = cc in
    let callers = step_callers now course.0 first course.1 in
    subst (λ h. Reached viewer opening h call_by) (history_more viewer first before history ∙ ap (λ c. history_after viewer (c ∷ before) history) same)
    (reached viewer opening stages before (with_call viewer first history) course.0 closing call_by after (call_agrees viewer opening history now first course.0 course.1 agrees)
    (subst (λ rows. Stays Publisher rows stages) (sym callers) publisher) (subst (λ rows. Stays viewer rows stages) (sym callers) own) course.2 rest)

pub alone_in : (opening closing : Tables) (stages : List Stage) → AreInOrder opening → IsCourse opening stages closing → IsAloneWhereItStays opening stages
alone_in opening closing stages ordered course viewer publisher own before call_by after is caller =
    let at = reached viewer (opening_of viewer opening) stages before [] opening closing call_by after (agrees_at_first viewer opening ordered) publisher own course is in
    let agreed = call_alone viewer (opening_of viewer opening) (history_after viewer before []) at.now call_by at.next at.step caller at.agrees in
    subst (λ h. (call_by.answer ≡ no_room) ⊎ (call_by.answer ≡ own_answer (opening_of viewer opening) h viewer call_by.call)) (append-nil (own_history viewer before)) agreed

-- a client who is new finds nothing of its own
pub new_opening : (rows : List CallerRow) (this : Tables) (name : List ℕ) → IsInBoth Publisher this.callers rows → has_name this.callers name ≡ false → has_name rows name ≡ true
    → opening_of (Client name) (with_callers rows this) ≡ opening_of_newcomer this
new_opening rows this name publisher before after =
    let comes = come (has_name this.callers name) (has_name rows name) before after in
    let still = stays Publisher this.callers rows publisher in
    λ i. record {
      content = this.content;
      publisher = if still i then no_change else this.last Publisher;
      own = if comes i then no_change else this.last (Client name);
      zones = if comes i then [] else this.zones name;
      received = if comes i then [] else this.received name;
    }
  where
    come : (a b : Bool) → a ≡ false → b ≡ true → ((b && not a) || (a && not b)) ≡ true
    come false true none there = refl
    come false false none there = cc
    come true b none there = cc
