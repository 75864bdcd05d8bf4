-- Calls to which nothing is told from the tables: each is answered as if alone, whatever the tables are.
use Rattle.std.proofs.Common.{◌≡◌, ◌⊎◌, ◌∙◌, Bool, false, List, [], ◌∷◌, ◌++◌, ap, inl, inr, refl, subst, sym}
use Rattle.std.specs.Prelude.{if◌then◌else◌}
use Rattle.bureau_store.specs.Tables.{Tables}
use Rattle.bureau_store.specs.declared.caller.Caller.{Caller}
use Rattle.bureau_store.specs.declared.caller.Caller.TheVariants.{Publisher, Client}
use Rattle.bureau.specs.Alone.{AreAnsweredAlike, IsAlone, own_history}
use Rattle.bureau.specs.Call.{Call}
use Rattle.bureau.specs.Joint.{CallBy, IsRun, IsStep}
use Rattle.bureau.specs.Kept.{IsToldOfNoTables, TellNothing}
use Rattle.bureau.specs.Outcome.{answer_of, answered, forbidden, may_ask, no_room, outcome, outcome_allowed}
use Rattle.bureau.specs.Own.{Accepted, Asked, Opening, accepted_in, own_answer, own_view}
use Rattle.bureau.specs.View.{View, view_of}
use Rattle.bureau.proofs.AgreesFacts.{view_caller}
use Rattle.bureau.proofs.RepeatFacts.{split_run}

-- ---- what may not be asked is told 403

barred : (view : View) (call : Call) → may_ask view.caller call ≡ false → outcome view call ≡ answered forbidden
barred view call not = ap (λ (may : Bool). if may then outcome_allowed view call else answered forbidden) not

told_forbidden : (old new : Tables) (call_by : CallBy) → IsStep old call_by new → may_ask call_by.caller call_by.call ≡ false
    → (call_by.answer ≡ no_room) ⊎ (call_by.answer ≡ forbidden)
told_forbidden old new call_by (inl none) not = inl none.0
told_forbidden old new call_by (inr made) not =
    inr (made.0 ∙ ap answer_of (barred (view_of call_by.caller old) call_by.call (ap (λ who. may_ask who call_by.call) (view_caller call_by.caller old) ∙ not)))

own_caller_is : (opening : Opening) (changes : List Accepted) (viewer : Caller) → (own_view opening changes viewer).caller ≡ viewer
own_caller_is opening changes Publisher = refl
own_caller_is opening changes (Client name) = refl

own_forbidden : (opening : Opening) (history : List Asked) (viewer : Caller) (call : Call) → may_ask viewer call ≡ false → own_answer opening history viewer call ≡ forbidden
own_forbidden opening history viewer call not =
    ap answer_of (barred (own_view opening (accepted_in opening history) viewer) call
    (ap (λ who. may_ask who call) (own_caller_is opening (accepted_in opening history) viewer) ∙ not))

-- ---- at each call of a run

told_there : (before : List CallBy) (call_by : CallBy) (after : List CallBy) → TellNothing (before ++ call_by ∷ after) → IsToldOfNoTables call_by
told_there [] call_by after silent = silent.0
told_there (first ∷ before) call_by after silent = told_there before call_by after silent.1

-- of a call that may not be asked
told_at : (opening closing : Tables) (calls before : List CallBy) (call_by : CallBy) (after : List CallBy) → IsRun opening calls closing → calls ≡ before ++ call_by ∷ after
    → may_ask call_by.caller call_by.call ≡ false → (call_by.answer ≡ no_room) ⊎ (call_by.answer ≡ forbidden)
told_at opening closing calls before call_by after run split not =
    let parts = split_run before (call_by ∷ after) opening closing (subst (λ (l : List CallBy). IsRun opening l closing) split run) in
    told_forbidden parts.0 parts.2.0 call_by parts.2.1 not

pub silent_alone : (opening closing : Tables) (calls : List CallBy) (viewer : Caller) (own : Opening) → TellNothing calls → IsRun opening calls closing → IsAlone viewer own calls
silent_alone opening closing calls viewer own silent run before call_by after split caller =
    by (told_there before call_by after (subst TellNothing split silent))
  where
    is_own : (not : may_ask call_by.caller call_by.call ≡ false) → (call_by.answer ≡ no_room) ⊎ (call_by.answer ≡ forbidden)
        → (call_by.answer ≡ no_room) ⊎ (call_by.answer ≡ own_answer own (own_history viewer before) viewer call_by.call)
    is_own not (inl none) = inl none
    is_own not (inr is) = inr (is ∙ sym (own_forbidden own (own_history viewer before) viewer call_by.call (ap (λ who. may_ask who call_by.call) (sym caller) ∙ not)))

    by : IsToldOfNoTables call_by → (call_by.answer ≡ no_room) ⊎ (call_by.answer ≡ own_answer own (own_history viewer before) viewer call_by.call)
    by (inl none) = inl none
    by (inr not) = is_own not (told_at opening closing calls before call_by after run split not)

pub silent_alike : (opening closing opening2 closing2 : Tables) (calls calls2 : List CallBy) (viewer : Caller) → TellNothing calls → IsRun opening calls closing
    → IsRun opening2 calls2 closing2 → AreAnsweredAlike viewer calls calls2
silent_alike opening closing opening2 closing2 calls calls2 viewer silent run run2 before call_by after before2 call_by2 after2 split split2 caller caller2 same history =
    by (told_there before call_by after (subst TellNothing split silent))
  where
    alike : (call_by.answer ≡ no_room) ⊎ (call_by.answer ≡ forbidden) → (call_by2.answer ≡ no_room) ⊎ (call_by2.answer ≡ forbidden)
        → (call_by.answer ≡ no_room) ⊎ ((call_by2.answer ≡ no_room) ⊎ (call_by.answer ≡ call_by2.answer))
    alike (inl none) other = inl none
    alike (inr is) (inl none) = inr (inl none)
    alike (inr is) (inr is2) = inr (inr (is ∙ sym is2))

    by : IsToldOfNoTables call_by → (call_by.answer ≡ no_room) ⊎ ((call_by2.answer ≡ no_room) ⊎ (call_by.answer ≡ call_by2.answer))
    by (inl none) = inl none
    by (inr not) =
        alike (told_at opening closing calls before call_by after run split not)
        (told_at opening2 closing2 calls2 before2 call_by2 after2 run2 split2
        (ap (λ who. may_ask who call_by2.call) (caller2 ∙ sym caller) ∙ ap (may_ask call_by.caller) (sym same) ∙ not))
