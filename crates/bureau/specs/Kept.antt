-- Calls and runs of a desk that may fail: what is told as accepted is kept, and what a stop may leave.
use Rattle.std.specs.Prelude.{◌≡◌, ◌⊎◌, ◌++◌, false, List, [], ◌∷◌}
use Rattle.catalogue.specs.View.{Goes, IsOpen, View}
use Rattle.bureau_store.specs.Tables.{Tables}
use Rattle.bureau.specs.Joint.{CallBy, IsStep, tables_left}
use Rattle.bureau.specs.Outcome.{may_ask, no_room, outcome}
use Rattle.bureau.specs.View.{view_of}

-- the tables after a call
abbrev pub tables_with : CallBy → Tables → Tables
tables_with call_by this = tables_left call_by.caller (outcome (view_of call_by.caller this) call_by.call) this

-- The answer is that there is no room, or that the caller may not ask this: neither comes from the tables.
abbrev pub IsToldOfNoTables : CallBy → Type 0
IsToldOfNoTables call_by = (call_by.answer ≡ no_room) ⊎ (may_ask call_by.caller call_by.call ≡ false)

module _ {Desk : Type 0} (view : View Desk Tables) where
  -- a desk at rest with these tables: while it is open, a stop leaves them and no others
  abbrev pub Rests : Desk → Tables → Type 0
  Rests desk this = IsOpen view desk → (left : Tables) → view.may_leave desk left → left ≡ this

  -- a desk that was asked nothing that changes: it may be said to hold these tables still
  pub record Idles (old new : Desk) (this : Tables) : Type 0 where
    pub goes : Goes view old new
    pub stands : view.stands new this
    pub leaves : (left : Tables) → view.may_leave new left → view.may_leave old left

  -- A call takes a desk from some tables to others. If it told anything from the tables, the desk is open after it. A stop
  -- may leave what it might have left before; or, if the desk was open, the tables after this call.
  pub record IsKeptStep (old new : Desk) (this : Tables) (call_by : CallBy) (next : Tables) : Type 0 where
    pub goes : Goes view old new
    pub step : IsStep this call_by next
    pub stands : view.stands new next
    pub told : IsOpen view new ⊎ IsToldOfNoTables call_by
    pub leaves : (left : Tables) → view.may_leave new left → view.may_leave old left ⊎ (IsOpen view old × (left ≡ tables_with call_by this))
    pub rests : Rests old this → Rests new next

  -- A run from one desk to another, with the desk as each call leaves it: from the call that closes it on, nothing is told
  -- from the tables.
  abbrev pub IsKeptRun : Desk → Desk → Tables → List CallBy → Tables → Type 0
  IsKeptRun old new this [] next = (next ≡ this) × Idles old new next
  IsKeptRun old new this (call_by ∷ calls) next =
      (mid : Desk) × (between : Tables) × IsKeptStep old mid this call_by between × IsKeptRun mid new between calls next

-- these calls tell nothing from the tables
abbrev pub TellNothing : List CallBy → Type 0
TellNothing [] = Unit {0}
TellNothing (call_by ∷ calls) = IsToldOfNoTables call_by × TellNothing calls

-- the tables with the change of one of these calls, to which the answer was that there is no room, and after which nothing
-- is told from the tables
abbrev pub IsWithOneRefused : Tables → List CallBy → Tables → Type 0
IsWithOneRefused this [] left = ⊥
IsWithOneRefused this (call_by ∷ calls) left =
    ((call_by.answer ≡ no_room) × TellNothing calls × (left ≡ tables_with call_by this)) ⊎ IsWithOneRefused this calls left

-- the tables with the change of the last of these calls, to which the answer was that there is no room
abbrev pub IsWithLastRefused : Tables → List CallBy → Tables → Type 0
IsWithLastRefused this calls left =
    (earlier : List CallBy) × (last : CallBy) × (calls ≡ earlier ++ last ∷ []) × (last.answer ≡ no_room) × (left ≡ tables_with last this)

-- What a stop may leave after a run: the tables after it; or, if the desk is closed, those with the change of a call that
-- was told 503, after which nothing was told from the tables.
abbrev pub MayBeLeft : {Desk : Type 0} → View Desk Tables → Desk → List CallBy → Tables → Tables → Type 0
MayBeLeft view new calls next left = (left ≡ next) ⊎ ((IsOpen view new → ⊥) × IsWithOneRefused next calls left)
