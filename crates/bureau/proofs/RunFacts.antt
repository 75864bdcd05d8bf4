-- A run, one call after the other.
use Rattle.std.proofs.Common.{◌≡◌, inl, inr, ◌+◌, ◌++◌, List, [], ◌∷◌, length, refl, sym, ◌∙◌, ap, length-append}
use Rattle.catalogue.specs.View.{View}
use Rattle.bureau_store.specs.Tables.{Tables}
use Rattle.bureau_store.specs.declared.caller.Caller.{Caller}
use Rattle.bureau.specs.Answering.{calls_of}
use Rattle.bureau.specs.Calls.{call_as}
use Rattle.bureau.specs.Joint.{CallBy, IsRun, IsStep, tables_left}
use Rattle.bureau.specs.Kept.{IsKeptRun}
use Rattle.bureau.specs.Outcome.{Outcome, answered, accepted, outcome}
use Rattle.bureau.specs.Replies.{reply_as}
use Rattle.bureau.specs.Runs.{IsLawfulRun}
use Rattle.bureau.specs.View.{view_of}
use Rattle.bureau.specs.declared.call.Call as declared
use Rattle.bureau.specs.declared.reply.Reply.{Reply}
use Rattle.bureau.proofs.AgreesFacts.{alike, alone}
use Rattle.bureau.proofs.KeptFacts.{kept_run, loses_nothing}
use Rattle.bureau.proofs.RepeatFacts.{acts_once, stays_stale}

-- a step leaves who may call
pub step_callers : (old new : Tables) (call_by : CallBy) → IsStep old call_by new → new.callers ≡ old.callers
step_callers old new call_by (inl none) = ap (λ (t : Tables). t.callers) none.1
step_callers old new call_by (inr made) = ap (λ (t : Tables). t.callers) made.1 ∙ by (outcome (view_of call_by.caller old) call_by.call)
  where
    by : (o : Outcome) → (tables_left call_by.caller o old).callers ≡ old.callers
    by (answered answer) = refl
    by (accepted effect text) = refl

-- and so does a run
pub run_callers : (old new : Tables) (calls : List CallBy) → IsRun old calls new → new.callers ≡ old.callers
run_callers old new [] is = ap (λ (t : Tables). t.callers) is
run_callers old new (call_by ∷ calls) is = run_callers is.0 new calls is.2 ∙ step_callers old is.0 call_by is.1

-- one more call with its answer
pub calls_more : (calls : List (Caller × declared.Call)) (replies : List Reply) (asked : Caller × declared.Call) (reply : Reply) → length replies ≡ length calls
    → calls_of (calls ++ asked ∷ []) (replies ++ reply ∷ []) ≡ calls_of calls replies ++ record { caller = asked.0; call = call_as asked.1; answer = reply_as reply } ∷ []
calls_more [] [] asked reply same = refl
calls_more [] (first ∷ replies) asked reply same = absurd (cc)
calls_more (call ∷ calls) [] asked reply same = absurd (cc)
calls_more (call ∷ calls) (first ∷ replies) asked reply same =
    ap (λ (rest : List CallBy). record { caller = call.0; call = call_as call.1; answer = reply_as first } ∷ rest) (calls_more calls replies asked reply (cc))

-- two lists of one length are so with one more entry each
pub one_more : {A B : Type 0} (xs : List A) (x : A) (ys : List B) (y : B) → length xs ≡ length ys → length (xs ++ x ∷ []) ≡ length (ys ++ y ∷ [])
one_more xs x ys y same = length-append xs (x ∷ []) ∙ ap (λ n. n + 1) same ∙ sym (length-append ys (y ∷ []))

-- a run that is kept is lawful
pub lawful_run : {Desk : Type 0} (view : View Desk Tables) (old new : Desk) (this : Tables) (calls : List CallBy) (next : Tables)
    → IsKeptRun view old new this calls next → IsLawfulRun view old new this calls next
lawful_run view old new this calls next kept =
    let run = kept_run view old new this calls next kept in
    record {
      run = run;
      kept = kept;
      stops = loses_nothing view old new this calls next kept;
      alone = λ ordered viewer. alone this next calls viewer ordered run;
      alike = λ opening closing others viewer ordered ordered_too other same. alike this next opening closing calls others viewer ordered ordered_too run other same;
      once = acts_once this next calls run;
      stale = stays_stale this next calls run;
    }
