-- The calls of any number of runs, and the callers that were set between them, are one course.
use Rattle.std.proofs.Common.{◌≡◌, ◌∙◌, ℕ, false, List, None, Option, Some, [], ◌∷◌, ◌++◌, ap, append-nil, inl, inr, refl, subst, sym}
use Rattle.std.proofs.Math.Logic.{∥∥₁_elim, ∥∥₁_map}
use Rattle.std.specs.List.{AllByRecursion}
use Rattle.std.specs.Prelude.{◌⊎◌, if◌then◌else◌}
use Rattle.faults.specs.declared.any.AnyFault.{AnyFault}
use Rattle.bureau_store.specs.SetCallers.{with_callers}
use Rattle.bureau_store.specs.Tables.{AreInOrder, Tables, opened}
use Rattle.bureau_store.specs.declared.caller.Caller.{Caller}
use Rattle.bureau_store.specs.declared.caller.CallerRow.{CallerRow}
use Rattle.bureau.specs.Course.{Callers, IsCourse, Stage}
use Rattle.bureau.specs.Call.{Call}
use Rattle.bureau.specs.Joint.{CallBy, IsRun, IsStep, tables_left}
use Rattle.bureau.specs.Kept.{IsToldOfNoTables, IsWithOneRefused, TellNothing}
use Rattle.bureau.specs.Outcome.{Answer, Outcome, accepted, answer_of, answered, forbidden, may_ask, no_room, outcome, outcome_allowed}
use Rattle.bureau.specs.View.{view_of}
use Rattle.bureau.proofs.AgreesFacts.{view_caller}
use Rattle.bureau.proofs.AgainFacts.{acts_once_in, stays_stale_in}
use Rattle.bureau.proofs.CourseFacts.{course_callers, course_of, join_courses}
use Rattle.bureau.proofs.KeptFacts.{not_503}
use Rattle.bureau.proofs.RepeatFacts.{split_run, run_join}
use Rattle.connections.specs.Rounds.{Log}
use Rattle.bureau_sql.specs.Files.{HoldTables, HoldsStore}
use Rattle.sqlite_disk.specs.declared.Disk as disk
use Rattle.sqlite_wal.specs.Recovery.{Image}
use Rattle.store_runs.specs.Callers.{KeepsCallers, LeavesSet, MayHaveSet}
use Rattle.store_runs.specs.Desk.{AreRowsOf}
use Rattle.store_runs.specs.Keeping.{EndsWell, HoldCallers, KeepsTables, Leaves}
use Rattle.bureau_program.specs.Served.{KeepsServed}
use Rattle.bureau_program.specs.Runs.{AreCallsIn, AreCoursesOn, AreFoundAs, AreFoundBy, AreJoined, AreOneCourse, AreRuns, AreRunsIn, AreRunsOver, FileRun, GoesOn, HasMade, HasSet, HaveThePublisher, HoldAfter, HoldSinceInit, IsRunOver, MayStand, Other, Run, Serves, Sets, StandsBy, as_made, left_by, stages_of}
use Rattle.store_runs.specs.Ended.{IsNothing}
use Rattle.store_runs.specs.declared.ended.Ended.{Ended}
use Rattle.store_runs.specs.declared.ended.Ended.TheVariants.{Nothing, Left, Closed}
use Rattle.store_runs.proofs.StayFacts.{kept_tables}
use Rattle.bureau_program.proofs.AloneFacts.{alone_throughout, own_replies}
use Rattle.bureau_program.proofs.KeepingFacts.{in_order}
use Rattle.bureau_program.proofs.StayingFacts.{all_have, found_have, has_the_publisher, publisher_stays, sets_have, still_has}

not_asked : (caller : Caller) (call : Call) (this : Tables) → may_ask caller call ≡ false → outcome (view_of caller this) call ≡ answered forbidden
not_asked caller call this refused =
    ap (λ may. if may then outcome_allowed (view_of caller this) call else answered forbidden) (ap (λ who. may_ask who call) (view_caller caller this) ∙ refused)

-- what tells nothing from the tables changes none, and would over other tables be told the same
silent_step : (call_by : CallBy) (old new : Tables) → IsToldOfNoTables call_by → IsStep old call_by new → new ≡ old
silent_step call_by old new (inl full) (inl step) = step.1
silent_step call_by old new (inr barred) (inl step) = step.1
silent_step call_by old new (inr barred) (inr step) = step.1 ∙ ap (λ come. tables_left call_by.caller come old) (not_asked call_by.caller call_by.call old barred)
silent_step call_by old new (inl full) (inr step) = step.1 ∙ by (outcome (view_of call_by.caller old) call_by.call) (sym step.0 ∙ full)
  where
    by : (come : Outcome) → answer_of come ≡ no_room → tables_left call_by.caller come old ≡ old
    by (answered answer) is = refl
    by (accepted effect text) is = absurd (not_503 (ap (λ (answer : Answer). answer.status) is))

alike_step : (call_by : CallBy) (old new other : Tables) → IsToldOfNoTables call_by → IsStep old call_by new → IsStep other call_by other
alike_step call_by old new other told (inl step) = inl (step.0, refl)
alike_step call_by old new other (inl full) (inr step) = inl (full, refl)
alike_step call_by old new other (inr barred) (inr step) = inr (
  step.0 ∙ ap answer_of (not_asked call_by.caller call_by.call old barred ∙ sym (not_asked call_by.caller call_by.call other barred)),
  sym (ap (λ come. tables_left call_by.caller come other) (not_asked call_by.caller call_by.call other barred)),
)

silent_run : (calls : List CallBy) (old new other : Tables) → TellNothing calls → IsRun old calls new → (new ≡ old) × IsRun other calls other
silent_run [] old new other silent run = (run, refl)
silent_run (call_by ∷ calls) old new other silent run =
    let later = silent_run calls run.0 new other silent.1 run.2 in
    (later.0 ∙ silent_step call_by old run.0 silent.0 run.1, (other, alike_step call_by old run.0 other silent.0 run.1, later.1))

-- the one that was made
found_made : (closing : Tables) (calls : List CallBy) (next : Tables) → IsWithOneRefused closing calls next → (made : List CallBy) × HasMade closing calls next made
found_made closing [] next refused = absurd refused
found_made closing (call_by ∷ calls) next (inl this) = (
  as_made call_by closing ∷ calls,
  record { before = []; call_by = call_by; after = calls; were = refl; was_refused = this.0; silent = this.1; next_is = this.2; are = refl },
)
found_made closing (call_by ∷ calls) next (inr later) =
    let it = found_made closing calls next later in
    let has = it.1 in (
      call_by ∷ it.0,
      record {
        before = call_by ∷ has.before;
        call_by = has.call_by;
        after = has.after;
        were = ap (λ (l : List CallBy). call_by ∷ l) has.were;
        was_refused = has.was_refused;
        silent = has.silent;
        next_is = has.next_is;
        are = ap (λ (l : List CallBy). call_by ∷ l) has.are;
      },
    )

-- with it the calls are a run to the tables that are found
made_run : (opening closing next : Tables) (calls made : List CallBy) → IsRun opening calls closing → HasMade closing calls next made → IsRun opening made next
made_run opening closing next calls made run has =
    let parts = split_run has.before (has.call_by ∷ has.after) opening closing (subst (λ (l : List CallBy). IsRun opening l closing) has.were run) in
    let rest = parts.2 in
    let later = silent_run has.after rest.0 closing next has.silent rest.2 in
    let stays : closing ≡ parts.0 = later.0 ∙ silent_step has.call_by parts.0 rest.0 (inl has.was_refused) rest.1 in
    let first : IsRun opening has.before closing = subst (IsRun opening has.before) (sym stays) parts.1 in
    let second : IsRun closing (as_made has.call_by closing ∷ has.after) next = (next, inr (refl, has.next_is), later.1) in
    subst (λ (l : List CallBy). IsRun opening l next) (sym has.are) (run_join opening closing next has.before (as_made has.call_by closing ∷ has.after) first second)

as_found : (run : Run) (next : Tables) → IsRun run.before run.calls run.closing → MayStand run next
    → (found : List Stage) × AreFoundAs run next found × IsCourse run.before found next
as_found run next now stands = by run.callers stands
  where
    -- all calls, and then these callers
    with_set : (rows : List CallerRow) → MayHaveSet run.outcome → next ≡ with_callers rows run.closing → (found : List Stage) × AreFoundBy (Some rows) run next found × IsCourse run.before found next
    with_set rows may set = (
      stages_of run.calls ++ Callers rows ∷ [],
      inl (may, set, refl),
      join_courses run.before run.closing next (stages_of run.calls) (Callers rows ∷ []) (course_of run.calls run.before run.closing now) (next, set, refl),
    )

    ended : (rows : List CallerRow) → LeavesSet rows run.outcome run.closing next
        → (found : List Stage) × AreFoundBy (Some rows) run next found × IsCourse run.before found next
    ended rows (inr set) = with_set rows set.0 set.1
    ended rows (inl kept) = (
      stages_of run.calls,
      inr (kept.0, kept.1, refl),
      subst (IsCourse run.before (stages_of run.calls)) (sym kept.1) (course_of run.calls run.before run.closing now),
    )

    by : (callers : Option (List CallerRow)) → StandsBy callers run next → (found : List Stage) × AreFoundBy callers run next found × IsCourse run.before found next
    by None (inl same) =
        (stages_of run.calls, inl (same, refl), subst (IsCourse run.before (stages_of run.calls)) (sym same) (course_of run.calls run.before run.closing now))
    by None (inr (device, refused)) =
        let made = found_made run.closing run.calls next refused in (
          stages_of made.0,
          inr (device, (made.0, made.1, refl)),
          course_of made.0 run.before next (made_run run.before run.closing next run.calls made.0 now made.1),
        )
    by (Some rows) set = ended rows set

all_joined : (run : Run) (runs : List Run) (this : Tables) → IsRun run.before run.calls run.closing → AreRuns (MayStand run) runs this
    → (all : List Stage) × AreJoined (run ∷ runs) this all × IsCourse run.before all this
all_joined run [] this now later =
    let found = as_found run this now later in
    (found.0, (found.0, [], sym (append-nil found.0), found.1, refl), found.2)
all_joined run (next ∷ runs) this now later =
    let rest = all_joined next runs this later.1 later.2 in
    let found = as_found run next.before now later.0 in (
      found.0 ++ rest.0,
      (found.0, rest.0, refl, found.1, rest.1),
      join_courses run.before next.before this found.0 rest.0 found.2 rest.2,
    )

-- all of them, from the tables that the first one finds
one_course : (opening : Tables) (files : List FileRun) (runs : List Run) (this : Tables) → AreInOrder opening → AreRunsIn files runs
    → AreRuns (λ at. at ≡ opening) runs this → AreOneCourse opening runs this
one_course opening files [] this ordered within are = record {
  all = [];
  joined = refl;
  course = are;
  alone = alone_throughout opening ordered this [] are;
  bytes = own_replies opening [] (alone_throughout opening ordered this [] are);
  once = acts_once_in opening this [] are;
  stale = stays_stale_in opening this [] are;
  stays = λ has. tt;
}
one_course opening files (run ∷ runs) this ordered within are =
    let it = all_joined run runs this are.1 are.2 in
    let whole : IsCourse opening it.0 this = subst (λ (at : Tables). IsCourse at it.0 this) are.0 it.2 in
    let have = all_have files (run ∷ runs) this it.0 within it.1 in
    record {
      all = it.0;
      joined = it.1;
      course = whole;
      alone = alone_throughout opening ordered this it.0 whole;
      bytes = own_replies opening it.0 (alone_throughout opening ordered this it.0 whole);
      once = acts_once_in opening this it.0 whole;
      stale = stays_stale_in opening this it.0 whole;
      stays = λ has. publisher_stays opening.callers it.0 has have;
    }

-- ---- from each run on

-- the next run finds the publisher, if the one before found it, or set callers
next_has : (Had : Type 0) (file : FileRun) (run : Run) (at : Tables) → AreCallsIn file run → IsRun run.before run.calls run.closing → MayStand run at
    → (Had → HaveThePublisher run.before.callers) → Had ⊎ HasSet run → HaveThePublisher at.callers
next_has Had file run at within now stands has (inl had) =
    let found = as_found run at now stands in
    subst HaveThePublisher (sym (course_callers found.0 run.before at found.2))
    (still_has run.before.callers found.0 (has had) (found_have run.callers run at found.0 (sets_have file run within) found.1))
next_has Had file run at within now stands has (inr (rows, is, tells)) =
    by (subst (λ (callers : Option (List CallerRow)). StandsBy callers run at) is stands)
  where
    by : LeavesSet rows run.outcome run.closing at → HaveThePublisher at.callers
    by (inl kept) = absurd (kept.0 tells)
    by (inr set) = subst (λ (this : Tables). HaveThePublisher this.callers) (sym set.1) (sets_have file run within rows is)

courses_on : (Had : Type 0) (files : List FileRun) (runs : List Run) (this : Tables) (Begins : Tables → Type 0) → AreRunsIn files runs → AreRuns Begins runs this
    → AllByRecursion (λ (run : Run). AreInOrder run.before) runs → ((at : Tables) → Begins at → Had → HaveThePublisher at.callers) → AreCoursesOn Had runs this
courses_on Had files [] this Begins within are ordered has = has this are
courses_on Had [] (run ∷ runs) this Begins within are ordered has = absurd within
courses_on Had (file ∷ files) (run ∷ runs) this Begins within are ordered has = (
  has run.before are.0,
  one_course run.before (file ∷ files) (run ∷ runs) this ordered.0 within (refl, are.1, are.2),
  courses_on (Had ⊎ HasSet run) files runs this (MayStand run) within.1 are.2 ordered.1 (λ at stands. next_has Had file run at within.0 are.1 stands (has run.before are.0)),
)

-- ---- over files

-- what is left after all runs, by what the first one found
abbrev AreHeld : (Tables → Type 0) → List FileRun → Tables → Type 0
AreHeld Begins files this = (runs : List Run) × AreRunsIn files runs × AreRuns Begins runs this × AllByRecursion (λ (run : Run). AreInOrder run.before) runs

one_held : (file : FileRun) (files : List FileRun) (from last : Image) (Begins : Tables → Type 0) (run : Run) → HoldsStore from run.before → Begins run.before → AreCallsIn file run
    → IsRun run.before run.calls run.closing → HoldTables last (AreHeld (MayStand run) files) → HoldTables last (AreHeld Begins (file ∷ files))
one_held file files from last Begins run holds begins within is rest = ∥∥₁_map rest (λ more.
    let r : (this : Tables) × HoldsStore last this × AreHeld Begins (file ∷ files) this = (
      more.0,
      more.1,
      (run ∷ more.2.0, (within, more.2.1), (begins, is, more.2.2), (in_order from run.before holds, more.2.3)),
    ) in r)

all_held : (files : List FileRun) (from last : Image) (Begins : Tables → Type 0) → HoldTables from Begins → AreRunsOver from files last → HoldTables last (AreHeld Begins files)
all_held [] from last Begins held same = subst (λ (at : Image). HoldTables at (AreHeld Begins [])) (sym same)
    (∥∥₁_map held (λ it.
    let r : (this : Tables) × HoldsStore from this × AreHeld Begins [] this = (it.0, it.1, ([], tt, it.2, tt)) in r))
all_held (Serves log log_after outcome left ∷ files) from last Begins held are = ∥∥₁_elim held squash₁ (λ it.
    let served = are.0 it.0 it.1 in
    let run : Run = record { before = it.0; calls = served.calls; closing = served.closing; outcome = outcome; callers = None } in
    one_held (Serves log log_after outcome left) files from last Begins run it.1 it.2 (refl, refl, served.made) served.run
    (all_held files left last (MayStand run) (served.left left refl) are.1))
all_held (Sets rows outcome left ∷ files) from last Begins held are = ∥∥₁_elim held squash₁ (λ it.
    let run : Run = record { before = it.0; calls = []; closing = it.0; outcome = outcome; callers = Some rows } in
    one_held (Sets rows outcome left) files from last Begins run it.1 it.2 (refl, refl, refl, are.0.0) refl
    (all_held files left last (MayStand run) (are.0.1 it.0 it.1) are.1))
all_held (Other left ∷ files) from last Begins held are = ∥∥₁_elim held squash₁ (λ it.
    let run : Run = record { before = it.0; calls = []; closing = it.0; outcome = None; callers = None } in
    let stays = ∥∥₁_map (are.0 it.0 it.1) (λ now.
    let r : (this : Tables) × HoldsStore left this × MayStand run this = (now.0, now.1, inl now.2) in r) in
    one_held (Other left) files from last Begins run it.1 it.2 (refl, refl) refl (all_held files left last (MayStand run) stays are.1))

-- from such tables
pub held_after : (opening : Tables) (image : Image) → HoldTables image (λ this. this ≡ opening)
    → (files : List FileRun) (last : Image) → AreRunsOver image files last → HoldAfter opening files last
held_after opening image held files last are = ∥∥₁_elim held squash₁ (λ it.
    let ordered : AreInOrder opening = subst AreInOrder it.2 (in_order image it.0 it.1) in
    ∥∥₁_map (all_held files image last (λ this. this ≡ opening) held are) (λ more.
    let course = one_course opening files more.2.0 more.0 ordered more.2.1 more.2.2 in
    let on = courses_on (HaveThePublisher opening.callers) files more.2.0 more.0 (λ at. at ≡ opening) more.2.1 more.2.2 more.2.3
    (λ at same has. subst (λ (this : Tables). HaveThePublisher this.callers) (sym same) has) in
    let r : (this : Tables) × HoldsStore last this × ((runs : List Run) × AreRunsIn files runs × AreRuns (λ at. at ≡ opening) runs this × AreOneCourse opening runs this
    × AreCoursesOn (HaveThePublisher opening.callers) runs this) = (more.0, more.1, (more.2.0, more.2.1, more.2.2, course, on)) in r))

-- from the store that `init` made
pub held_since : (source : List ℕ) (image : Image) → HoldCallers source image → (files : List FileRun) (last : Image) → AreRunsOver image files last
    → HoldSinceInit source files last
held_since source image made files last are =
    (made.0, made.1, has_the_publisher source made.0 made.1, held_after (opened made.0) image made.2 files last are)

-- and one more run
one_more : (from : Image) (files : List FileRun) (last : Image) (run : FileRun) → AreRunsOver from files last → IsRunOver last run → AreRunsOver from (files ++ run ∷ []) (left_by run)
one_more from [] last run same is = (subst (λ (at : Image). IsRunOver at run) same is, refl)
one_more from (file ∷ files) last run are is = (are.0, one_more (left_by file) files last run are.1 is)

-- what a run keeps makes it one of the law, whatever a stop leaves
module _ {D : Type 0} {g : disk.Ghosts D} (from : Image) (ended : Ended D g) (well : EndsWell from ended) (left : Image) (may : Leaves from ended left) where
  pub serves_over : (log log_after : Log) (outcome : Option AnyFault) → KeepsServed from log log_after outcome ended
      → IsRunOver from (Serves log log_after outcome left)
  serves_over log log_after outcome kept before holds =
      let it = kept.served well before holds in
      record {
        calls = it.calls;
        closing = it.closing;
        made = it.made;
        run = it.run;
        alone = it.alone;
        left = λ image same. it.left image (subst (Leaves from ended) (sym same) may);
      }

  pub sets_over : (source : List ℕ) (rows : List CallerRow) (outcome : Option AnyFault) → AreRowsOf source rows → KeepsCallers from rows outcome ended
      → IsRunOver from (Sets rows outcome left)
  sets_over source rows outcome rows_are kept = ((source, rows_are), λ before holds. kept.store before holds well left may)

  pub other_over : KeepsTables from ended → IsRunOver from (Other left)
  other_over kept before holds = kept before holds well left may

-- a run that opened no files
module _ {D : Type 0} {g : disk.Ghosts D} (from : Image) where
  pub nothing_kept : (ended : Ended D g) → IsNothing ended → KeepsTables from ended
  nothing_kept Nothing none = kept_tables {D = D} {g = g} from Nothing tt
  nothing_kept (Left it) none = absurd none
  nothing_kept (Closed last) none = absurd none

pub goes_on : {D : Type 0} {g : disk.Ghosts D} (from : Image) (log log_after : Log) (outcome : Option AnyFault) (ended : Ended D g)
    → KeepsServed from log log_after outcome ended → GoesOn from log log_after outcome ended
goes_on from log log_after why ended kept well image runs are left may =
    let this : FileRun = Serves log log_after why left in
    let all = one_more image runs from this are (serves_over from ended well left may log log_after why kept) in (
      λ source made. held_since source image made (runs ++ this ∷ []) left all,
      λ opening held. held_after opening image held (runs ++ this ∷ []) left all,
    )
