-- A bureau over several runs, between which it may get other callers.
use Rattle.std.specs.Prelude.{◌≡◌, ◌++◌, ℕ, true, List, [], ◌∷◌}
use Rattle.bureau_store.specs.SetCallers.{has_name, name_of, with_callers}
use Rattle.bureau_store.specs.Tables.{Tables, no_change}
use Rattle.bureau_store.specs.declared.caller.Caller.{Caller}
use Rattle.bureau_store.specs.declared.caller.Caller.TheVariants.{Publisher}
use Rattle.bureau_store.specs.declared.caller.CallerRow.{CallerRow}
use Rattle.bureau.specs.Alone.{IsAlone, opening_of}
use Rattle.bureau.specs.Joint.{CallBy, IsStep}
use Rattle.bureau.specs.Outcome.{stale}
use Rattle.bureau.specs.Own.{Opening}
use Rattle.bureau.specs.Repeat.{IsChange, IsToldAgain, IsToldStale}

-- a call comes; or, between two runs, the bureau gets these callers
pub data Stage : Type 0 where
  Called : CallBy → Stage
  Callers : List CallerRow → Stage

abbrev pub IsStage : Tables → Stage → Tables → Type 0
IsStage old (Called call_by) new = IsStep old call_by new
IsStage old (Callers rows) new = new ≡ with_callers rows old

-- one stage after another
abbrev pub IsCourse : Tables → List Stage → Tables → Type 0
IsCourse old [] new = new ≡ old
IsCourse old (stage ∷ stages) new = (mid : Tables) × IsStage old stage mid × IsCourse mid stages new

-- the calls that come in it
abbrev pub calls_in : List Stage → List CallBy
calls_in [] = []
calls_in (Called call_by ∷ stages) = call_by ∷ calls_in stages
calls_in (Callers rows ∷ stages) = calls_in stages

-- a caller of these is among the others too
abbrev pub IsInBoth : Caller → List CallerRow → List CallerRow → Type 0
IsInBoth caller callers others = (has_name callers (name_of caller) ≡ true) × (has_name others (name_of caller) ≡ true)

-- whenever the bureau gets other callers, this one stays
abbrev pub Stays : Caller → List CallerRow → List Stage → Type 0
Stays caller callers [] = Unit {0}
Stays caller callers (Called call_by ∷ stages) = Stays caller callers stages
Stays caller callers (Callers rows ∷ stages) = IsInBoth caller callers rows × Stays caller rows stages

-- For a caller who stays it is as if nothing had happened to the callers: it is answered as if only its own calls and those
-- of the publisher, who stays too, came.
abbrev pub IsAloneWhereItStays : Tables → List Stage → Type 0
IsAloneWhereItStays opening stages = (viewer : Caller) → Stays Publisher opening.callers stages → Stays viewer opening.callers stages
    → IsAlone viewer (opening_of viewer opening) (calls_in stages)

-- the part of the tables that the publisher and a client find that has sent nothing
abbrev pub opening_of_newcomer : Tables → Opening
opening_of_newcomer tables = record {
  content = tables.content;
  publisher = tables.last Publisher;
  own = no_change;
  zones = [];
  received = [];
}

-- ---- changes that come again

-- the callers that the bureau has after these stages
abbrev pub callers_after : List CallerRow → List Stage → List CallerRow
callers_after callers [] = callers
callers_after callers (Called call_by ∷ stages) = callers_after callers stages
callers_after callers (Callers rows ∷ stages) = callers_after rows stages

-- One caller's change, and later in the course a change of the same caller with the same number, whatever it asks. The caller
-- stays in between.
pub record ComesAgainIn (callers : List CallerRow) (stages : List Stage) (first again : CallBy) : Type 0 where
  pub number : ℕ
  pub before : List Stage
  pub between : List Stage
  pub after : List Stage
  pub are : stages ≡ before ++ Called first ∷ (between ++ Called again ∷ after)
  pub caller : again.caller ≡ first.caller
  pub first_is : IsChange number first
  pub again_is : IsChange number again
  pub stays : Stays first.caller (callers_after callers before) between

-- without its second coming the course leads from the same tables to the same tables
abbrev pub IsCourseWithout : Tables → {callers : List CallerRow} → {stages : List Stage} → {first again : CallBy} → ComesAgainIn callers stages first again → Tables → Type 0
IsCourseWithout opening {callers} {stages} {first} comes closing = IsCourse opening (comes.before ++ Called first ∷ (comes.between ++ comes.after)) closing

-- A change that was told 200 acts once, in whichever runs it comes. The tables are those that there are without its second
-- coming.
abbrev pub ActsOnceIn : Tables → List Stage → Tables → Type 0
ActsOnceIn opening stages closing =
    (first again : CallBy) → (comes : ComesAgainIn opening.callers stages first again) → first.answer.status ≡ 200 →
    IsToldAgain comes.number first (calls_in comes.between) again × IsCourseWithout opening comes closing

-- A change that was told STALE stays so, in whichever runs it comes, and changes nothing.
abbrev pub StaysStaleIn : Tables → List Stage → Tables → Type 0
StaysStaleIn opening stages closing =
    (first again : CallBy) → (comes : ComesAgainIn opening.callers stages first again) → first.answer ≡ stale →
    IsToldStale again × IsCourseWithout opening comes closing
