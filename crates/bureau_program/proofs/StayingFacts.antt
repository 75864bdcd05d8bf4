-- Each callers file has the publisher, so the publisher stays over all runs.
use Rattle.std.proofs.Common.{◌≡◌, ◌∙◌, ℕ, Bool, Err, List, None, Ok, Option, Result, Some, [], ◌∷◌, ◌++◌, ap, inl, inr, refl, subst, sym, true}
use Rattle.std.proofs.lemmas.Bool.{cases_Bool}
use Rattle.std.specs.List.{list_any}
use Rattle.std.specs.Option.{option_map}
use Rattle.std.specs.Prelude.{find, is_some, ◌||◌, if◌then◌else◌}
use Rattle.bureau_store.specs.Caller.{is_publisher}
use Rattle.bureau_store.specs.Callers.{caller_list, has_publisher, with_publisher}
use Rattle.bureau_store.specs.Tables.{Tables}
use Rattle.bureau_store.specs.declared.caller.Caller.TheVariants.{Publisher}
use Rattle.bureau_store.specs.declared.caller.CallerRow.{CallerRow}
use Rattle.bureau_store.specs.declared.fault.CallerFault.{CallerFault}
use Rattle.bureau_store.specs.declared.fault.CallerFault.TheVariants.{NoPublisher}
use Rattle.zone_lists.specs.Lists.{answer, records_of}
use Rattle.zone_lists.specs.declared.fault.ListFault.{ListFault}
use Rattle.bureau.specs.Course.{Called, Callers, Stage, Stays, callers_after}
use Rattle.bureau.specs.Joint.{CallBy}
use Rattle.bureau_program.specs.Runs.{AreCallsIn, AreFoundBy, AreJoined, AreRunsIn, FileRun, HaveThePublisher, Other, Run, Serves, Sets, found_next, stages_of}
use Rattle.store_runs.specs.Desk.{AreRowsOf}

-- ---- a callers file has the publisher

-- what one of a list has is found
any_found : {A B : Type 0} (p : A → Bool) (f : A → B) (xs : List A) → list_any p xs ≡ true → is_some (option_map f (find p xs)) ≡ true
any_found p f [] none = absurd cc
any_found {A} {B} p f (x ∷ xs) some = elim (cases_Bool (p x)) [
  | inl this ↦ ap (λ it. is_some (option_map f (if it then Some x else find p xs))) this
  | inr other ↦
      ap (λ it. is_some (option_map f (if it then Some x else find p xs))) other
      ∙ any_found p f xs (sym (ap (λ it. it || list_any p xs) other) ∙ some)
]

pub among : (rows : List CallerRow) → has_publisher rows ≡ true → HaveThePublisher rows
among rows there = any_found (λ (row : CallerRow). is_publisher row.name) (λ (row : CallerRow). row.token) rows there

was_there : (found rows : List CallerRow) → with_publisher (Ok found) ≡ Ok rows → HaveThePublisher rows
was_there found rows is = elim (cases_Bool (has_publisher found)) [
  | inl there ↦
      let same : ◌≡◌ {A = Result (List CallerRow) CallerFault} (Ok found) (Ok rows) = sym (ap (λ it. if it then Ok found else Err NoPublisher) there) ∙ is in
      let one : found ≡ rows = cc in
      subst HaveThePublisher one (among found there)
  | inr none ↦ absurd (let other : ◌≡◌ {A = Result (List CallerRow) CallerFault} (Err NoPublisher) (Ok rows) = sym (ap (λ it. if it then Ok found else Err NoPublisher) none) ∙ is in cc)
]

of_answer : (answer : Result (List CallerRow) ListFault) (rows : List CallerRow) → with_publisher answer ≡ Ok rows → HaveThePublisher rows
of_answer (Ok found) rows is = was_there found rows is
of_answer (Err fault) rows is = absurd cc

pub has_the_publisher : (source : List ℕ) (rows : List CallerRow) → AreRowsOf source rows → HaveThePublisher rows
has_the_publisher source rows is = of_answer (answer caller_list (records_of source)) rows is

-- ---- so whoever gets callers gets the publisher

-- each list of callers has the publisher
abbrev pub AllHave : List Stage → Type 0
AllHave [] = Unit {0}
AllHave (Called call_by ∷ stages) = AllHave stages
AllHave (Callers rows ∷ stages) = HaveThePublisher rows × AllHave stages

pub publisher_stays : (callers : List CallerRow) (stages : List Stage) → HaveThePublisher callers → AllHave stages → Stays Publisher callers stages
publisher_stays callers [] has all = tt
publisher_stays callers (Called call_by ∷ stages) has all = publisher_stays callers stages has all
publisher_stays callers (Callers rows ∷ stages) has all = ((has, all.0), publisher_stays rows stages all.0 all.1)

-- who had the publisher has it after them
pub still_has : (callers : List CallerRow) (stages : List Stage) → HaveThePublisher callers → AllHave stages → HaveThePublisher (callers_after callers stages)
still_has callers [] has all = has
still_has callers (Called call_by ∷ stages) has all = still_has callers stages has all
still_has callers (Callers rows ∷ stages) has all = still_has rows stages all.0 all.1

both_have : (first later : List Stage) → AllHave first → AllHave later → AllHave (first ++ later)
both_have [] later one two = two
both_have (Called call_by ∷ first) later one two = both_have first later one two
both_have (Callers rows ∷ first) later one two = (one.0, both_have first later one.1 two)

calls_have : (calls : List CallBy) → AllHave (stages_of calls)
calls_have [] = tt
calls_have (call_by ∷ calls) = calls_have calls

-- of one run
pub found_have : (callers : Option (List CallerRow)) (run : Run) (next : Tables) (found : List Stage) → ((rows : List CallerRow) → callers ≡ Some rows → HaveThePublisher rows)
    → AreFoundBy callers run next found → AllHave found
found_have None run next found all (inl same) = subst AllHave (sym same.1) (calls_have run.calls)
found_have None run next found all (inr (device, made)) = subst AllHave (sym made.2) (calls_have made.0)
found_have (Some rows) run next found all (inl set) =
    subst AllHave (sym set.2) (both_have (stages_of run.calls) (Callers rows ∷ []) (calls_have run.calls) (all rows refl, tt))
found_have (Some rows) run next found all (inr kept) = subst AllHave (sym kept.2) (calls_have run.calls)

-- the callers that a run sets are those of a callers file
pub sets_have : (file : FileRun) (run : Run) → AreCallsIn file run → (rows : List CallerRow) → run.callers ≡ Some rows → HaveThePublisher rows
sets_have (Serves log log_after outcome left) run are rows is =
    absurd (let other : ◌≡◌ {A = Option (List CallerRow)} None (Some rows) = sym are.1 ∙ is in cc)
sets_have (Sets set outcome left) run are rows is =
    let same : ◌≡◌ {A = Option (List CallerRow)} (Some set) (Some rows) = sym are.2 ∙ is in
    let one : set ≡ rows = cc in
    has_the_publisher are.3.0 rows (subst (AreRowsOf are.3.0) one are.3.1)
sets_have (Other left) run are rows is = absurd (let other : ◌≡◌ {A = Option (List CallerRow)} None (Some rows) = sym are.1 ∙ is in cc)

-- of all runs
pub all_have : (files : List FileRun) (runs : List Run) (this : Tables) (all : List Stage) → AreRunsIn files runs → AreJoined runs this all → AllHave all
all_have [] [] this all are joined = subst AllHave (sym joined) tt
all_have [] (run ∷ runs) this all are joined = absurd are
all_have (file ∷ files) [] this all are joined = absurd are
all_have (file ∷ files) (run ∷ runs) this all are joined =
    let found = joined.0 in
    let rest = joined.1 in
    subst AllHave (sym joined.2) (both_have found rest (found_have run.callers run (found_next runs this) found (sets_have file run are.0) joined.3)
    (all_have files runs this rest are.1 joined.4))
