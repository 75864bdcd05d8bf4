-- How contracts look at the bureau, and what a call leaves of it, whatever its store and its judge are.
use Rattle.std.specs.Prelude.{◌≡◌, ◌⊎◌, List, [], ◌∷◌, All, refl}
use Rattle.std.proofs.Common.{◌∙◌, arith, subst, sym}
use Rattle.catalogue.specs.Content.{Content}
use Rattle.catalogue.specs.View.{Goes, IsLawful, IsOpen, Keeps, Tells, View}
use Rattle.bureau_store.specs.Caller.{IsAmong}
use Rattle.bureau_store.specs.Tables.{Tables}
use Rattle.bureau_store.specs.declared.caller.Caller.{Caller}
use Rattle.bureau_store.specs.declared.caller.CallerRow.{CallerRow}
use Rattle.bureau.specs.Calls.{call_as}
use Rattle.bureau.specs.Joint.{CallBy}
use Rattle.bureau.specs.Kept.{IsKeptStep, IsToldOfNoTables}
use Rattle.bureau.specs.Parts.{Parts}
use Rattle.bureau.specs.Replies.{reply_as}
use Rattle.bureau.specs.Runs.{IsLawfulRun}
use Rattle.bureau.specs.declared.call.Call as declared
use Rattle.bureau.specs.declared.reply.Reply.{Reply}

-- The bureau holds the tables of its store, if its judge is right for the published content in them.
abbrev pub bureau_view : {Store Judge : Type 0} → View Store Tables → (Judge → Content → Type 0) → View (Parts Store Judge) Tables
bureau_view view is_right = record {
  stands = λ bureau this. view.stands bureau.store this × is_right bureau.judge this.content;
  is_clean = λ bureau. view.is_clean bureau.store;
  is_ours = λ bureau. view.is_ours bureau.store;
  failures = λ bureau. view.failures bureau.store;
  may_leave = λ bureau this. view.may_leave bureau.store this;
  keeps = λ old new. Keeps view old.store new.store × (new.judge ≡ old.judge);
}

pub bureau_lawful : {Store Judge : Type 0} (view : View Store Tables) (is_right : Judge → Content → Type 0) → IsLawful view → IsLawful (bureau_view view is_right)
bureau_lawful view is_right lawful = record {
  keeps = λ old new kept. record {
    goes = record { clean = kept.0.goes.clean; ours = kept.0.goes.ours; failures_rise = kept.0.goes.failures_rise };
    stays = λ ours clean this stands. (kept.0.stays ours clean this stands.0, subst (λ judge. is_right judge this.content) (sym kept.1) stands.1);
    leaves = kept.0.leaves;
  };
  itself = λ bureau. (
    record {
      goes = record { clean = λ h. h; ours = λ h _. h; failures_rise = omega arith };
      stays = λ ours clean this stands. stands;
      leaves = λ ours clean this h. h;
    },
    refl,
  );
  on = λ first second third sooner later. (
    record {
      goes = record {
        clean = λ clean. sooner.0.goes.clean (later.0.goes.clean clean);
        ours = λ ours clean. later.0.goes.ours (sooner.0.goes.ours ours (later.0.goes.clean clean)) clean;
        failures_rise = omega (arith, sooner.0.goes.failures_rise, later.0.goes.failures_rise);
      };
      stays = λ ours clean this stands.
          let between = later.0.goes.clean clean in
          later.0.stays (sooner.0.goes.ours ours between) clean this (sooner.0.stays ours between this stands);
      leaves = λ ours clean this h.
          let between = later.0.goes.clean clean in
          sooner.0.leaves ours between this (later.0.leaves (sooner.0.goes.ours ours between) clean this h);
    },
    later.1 ∙ sooner.1,
  );
  one = λ bureau is_open this other first second. lawful.one bureau.store is_open this other first.0 second.0;
}

-- A call is answered: if one of the callers asks, it is a step of the bureau that all callers share.
pub record IsAnswered {Desk : Type 0} (view : View Desk Tables) (old new : Desk) (call_by : CallBy) : Type 0 where
  pub goes : Goes view old new
  pub closed : IsOpen view new ⊎ IsToldOfNoTables call_by
  pub call_made : Tells view old new (λ this. IsAmong this.callers call_by.caller → (next : Tables) × IsKeptStep view old new this call_by next)

-- calls by their callers with their answers, as far as both go
abbrev pub calls_of : List (Caller × declared.Call) → List Reply → List CallBy
calls_of [] replies = []
calls_of (asked ∷ calls) [] = []
calls_of (asked ∷ calls) (reply ∷ replies) = record { caller = asked.0; call = call_as asked.1; answer = reply_as reply } ∷ calls_of calls replies

-- each of these calls is by one of the callers
abbrev pub AreAmong : List CallerRow → List (Caller × declared.Call) → Type 0
AreAmong rows calls = All (λ asked. IsAmong rows asked.0) calls

-- Calls are answered, one after the other: if each is by one of the callers, they are a lawful run of the bureau.
abbrev pub AreAnswered : {Desk : Type 0} → View Desk Tables → Desk → Desk → List (Caller × declared.Call) → List Reply → Type 0
AreAnswered view old new calls replies =
    Tells view old new (λ this. AreAmong this.callers calls → (next : Tables) × IsLawfulRun view old new this (calls_of calls replies) next)
