-- A change that comes again in a course acts once, while its caller stays.
use Rattle.std.proofs.Common.{◌≡◌, ◌∙◌, ◌<◌, ℕ, Bool, List, [], ◌∷◌, ◌++◌, ap, inl, inr, subst, sym, true}
use Rattle.std.specs.Prelude.{if◌then◌else◌}
use Rattle.bureau_store.specs.SetCallers.{with_callers}
use Rattle.bureau_store.specs.Tables.{LastChange, Tables, no_change}
use Rattle.bureau_store.specs.declared.caller.Caller.{Caller}
use Rattle.bureau_store.specs.declared.caller.CallerRow.{CallerRow}
use Rattle.bureau.specs.Course.{ActsOnceIn, Called, Callers, ComesAgainIn, IsCourse, IsInBoth, Stage, Stays, StaysStaleIn, calls_in}
use Rattle.bureau.specs.Joint.{CallBy, IsStep}
use Rattle.bureau.specs.Repeat.{IsToldAgain, IsToldStale}
use Rattle.bureau.proofs.CourseFacts.{course_callers, join_courses, split_course, stays}
use Rattle.bureau.proofs.RepeatFacts.{IsPassed, IsToldTaken, Passes, first_stale, first_taken, in_range, passed_step, passes_more, passes_none, stale_again, told_again}
use Rattle.bureau.proofs.RunFacts.{step_callers}

-- ---- who stays keeps the last change

last_stays : (caller : Caller) (rows : List CallerRow) (old mid : Tables) → IsInBoth caller old.callers rows → mid ≡ with_callers rows old → mid.last caller ≡ old.last caller
last_stays caller rows old mid both is =
    ap (λ (this : Tables). this.last caller) is ∙ ap (λ (b : Bool). if b then no_change else old.last caller) (stays caller old.callers rows both)

-- and stays from then on
stays_called : (caller : Caller) (stages : List Stage) (old mid : Tables) (call_by : CallBy) → IsStep old call_by mid → Stays caller old.callers stages → Stays caller mid.callers stages
stays_called caller stages old mid call_by step stay = subst (λ rows. Stays caller rows stages) (sym (step_callers old mid call_by step)) stay

stays_set : (caller : Caller) (stages : List Stage) (rows : List CallerRow) (old mid : Tables) → mid ≡ with_callers rows old → Stays caller rows stages → Stays caller mid.callers stages
stays_set caller stages rows old mid is stay = subst (λ (this : Tables). Stays caller this.callers stages) (sym is) stay

-- a number that was passed stays so
passed_in : (caller : Caller) (n : ℕ) (old new : Tables) (stages : List Stage) → Stays caller old.callers stages → IsCourse old stages new → IsPassed caller n old → IsPassed caller n new
passed_in caller n old new [] stay course low = subst (IsPassed caller n) (sym course) low
passed_in caller n old new (Called call_by ∷ stages) stay course low =
    passed_in caller n course.0 new stages (stays_called caller stages old course.0 call_by course.1 stay) course.2 (passed_step caller n old course.0 call_by course.1 low)
passed_in caller n old new (Callers rows ∷ stages) stay course low =
    passed_in caller n course.0 new stages (stays_set caller stages rows old course.0 course.1 stay.1) course.2
    (subst (λ (last : LastChange). n < last.number) (sym (last_stays caller rows old course.0 stay.0 course.1)) low)

passes_in : (caller : Caller) (n : ℕ) (old new : Tables) (stages : List Stage) → Stays caller old.callers stages → IsCourse old stages new → n ≡ (old.last caller).number
    → Passes caller n old (calls_in stages) new
passes_in caller n old new [] stay course is = passes_none caller n old new course
passes_in caller n old new (Called call_by ∷ stages) stay course is =
    let later = stays_called caller stages old course.0 call_by course.1 stay in
    passes_more caller n old course.0 new call_by (calls_in stages) course.1 is (passed_in caller n course.0 new stages later course.2)
    (passes_in caller n course.0 new stages later course.2)
passes_in caller n old new (Callers rows ∷ stages) stay course is = by (passes_in caller n course.0 new stages (stays_set caller stages rows old course.0 course.1 stay.1) course.2 (is ∙ ap (λ (last : LastChange). last.number) (sym same)))
  where
    same : course.0.last caller ≡ old.last caller
    same = last_stays caller rows old course.0 stay.0 course.1

    by : Passes caller n course.0 (calls_in stages) new → Passes caller n old (calls_in stages) new
    by (inl none) = inl (none.0, none.1 ∙ same)
    by (inr passed) = inr passed

-- ---- over a course

-- the course with a change that comes again, in its parts
record Comes (opening closing : Tables) (stages : List Stage) (first again : CallBy) (comes : ComesAgainIn opening.callers stages first again) : Type 0 where
  at : Tables
  before : IsCourse opening comes.before at
  mid : Tables
  first_step : IsStep at first mid
  now : Tables
  between : IsCourse mid comes.between now
  next : Tables
  again_step : IsStep now again next
  after : IsCourse next comes.after closing
  stays_there : Stays first.caller mid.callers comes.between

parted : (opening closing : Tables) (stages : List Stage) (first again : CallBy) (comes : ComesAgainIn opening.callers stages first again) → IsCourse opening stages closing
    → Comes opening closing stages first again comes
parted opening closing stages first again comes course = record {
  at = at.0;
  before = at.1;
  mid = at.2.0;
  first_step = at.2.1;
  now = later.0;
  between = later.1;
  next = later.2.0;
  again_step = later.2.1;
  after = later.2.2;
  stays_there = subst (λ rows. Stays first.caller rows comes.between) (sym (step_callers at.0 at.2.0 first at.2.1 ∙ course_callers comes.before opening at.0 at.1)) comes.stays;
}
  where
    at : (at : Tables) × IsCourse opening comes.before at × IsCourse at (Called first ∷ (comes.between ++ Called again ∷ comes.after)) closing
    at = split_course comes.before _ opening closing (subst (λ (l : List Stage). IsCourse opening l closing) comes.are course)

    later : (now : Tables) × IsCourse at.2.0 comes.between now × IsCourse now (Called again ∷ comes.after) closing
    later = split_course comes.between _ at.2.0 closing at.2.2

-- where its second coming changes nothing
without : (opening closing : Tables) (stages : List Stage) (first again : CallBy) (comes : ComesAgainIn opening.callers stages first again) (parts : Comes opening closing stages first again comes)
    → parts.next ≡ parts.now → IsCourse opening (comes.before ++ Called first ∷ (comes.between ++ comes.after)) closing
without opening closing stages first again comes parts same =
    join_courses opening parts.at closing comes.before (Called first ∷ (comes.between ++ comes.after)) parts.before
    (parts.mid, parts.first_step, join_courses parts.mid parts.now closing comes.between comes.after parts.between (subst (λ (this : Tables). IsCourse this comes.after closing) same parts.after))

pub acts_once_in : (opening closing : Tables) (stages : List Stage) → IsCourse opening stages closing → ActsOnceIn opening stages closing
acts_once_in opening closing stages course first again comes ok = (told_is.0, without opening closing stages first again comes parts told_is.1)
  where
    n : ℕ
    n = comes.number

    parts : Comes opening closing stages first again comes
    parts = parted opening closing stages first again comes course

    took : IsToldTaken n first parts.mid
    took = first_taken parts.at parts.mid first n parts.first_step comes.first_is ok

    told_is : IsToldAgain n first (calls_in comes.between) again × (parts.next ≡ parts.now)
    told_is =
        told_again parts.mid parts.now parts.next first again n (calls_in comes.between) took
        (passes_in first.caller n parts.mid parts.now comes.between parts.stays_there parts.between took.taken.0) parts.again_step comes.caller comes.again_is

pub stays_stale_in : (opening closing : Tables) (stages : List Stage) → IsCourse opening stages closing → StaysStaleIn opening stages closing
stays_stale_in opening closing stages course first again comes is = (told_is.0, without opening closing stages first again comes parts told_is.1)
  where
    n : ℕ
    n = comes.number

    parts : Comes opening closing stages first again comes
    parts = parted opening closing stages first again comes course

    found : (in_range n ≡ true) × IsPassed first.caller n parts.at
    found = first_stale parts.at parts.mid first n parts.first_step comes.first_is is

    told_is : IsToldStale again × (parts.next ≡ parts.now)
    told_is =
        stale_again parts.now parts.next first again n found.0
        (passed_in first.caller n parts.mid parts.now comes.between parts.stays_there parts.between (passed_step first.caller n parts.at parts.mid first parts.first_step found.1))
        parts.again_step comes.caller comes.again_is
