-- The bureau that all callers share, as one machine.
use Rattle.std.specs.Prelude.{◌≡◌, ◌⊎◌, ◌+◌, List, [], ◌∷◌}
use Rattle.bureau_store.specs.Effect.{tables_after}
use Rattle.bureau_store.specs.Tables.{Tables}
use Rattle.bureau_store.specs.declared.caller.Caller.{Caller}
use Rattle.bureau.specs.Call.{Call}
use Rattle.bureau.specs.Outcome.{Answer, Outcome, answered, accepted, answer_of, no_room, outcome}
use Rattle.bureau.specs.View.{view_of}

-- a call by a caller, with its answer
pub record CallBy : Type 0 where
  pub caller : Caller
  pub call : Call
  pub answer : Answer

-- the tables after the outcome of a call
abbrev pub tables_left : Caller → Outcome → Tables → Tables
tables_left caller (answered answer) old = old
tables_left caller (accepted effect text) old = tables_after caller effect (record { number = (old.last caller).number + 1; reply = text }) old

-- One step: there is no room, and nothing changes; or the answer and the tables are those of the call's outcome over the
-- caller's view.
abbrev pub IsStep : Tables → CallBy → Tables → Type 0
IsStep old call_by new =
    ((call_by.answer ≡ no_room) × (new ≡ old))
    ⊎ ((call_by.answer ≡ answer_of (outcome (view_of call_by.caller old) call_by.call))
    × (new ≡ tables_left call_by.caller (outcome (view_of call_by.caller old) call_by.call) old))

-- one call after another
abbrev pub IsRun : Tables → List CallBy → Tables → Type 0
IsRun old [] new = new ≡ old
IsRun old (call_by ∷ calls) new = (mid : Tables) × IsStep old call_by mid × IsRun mid calls new
