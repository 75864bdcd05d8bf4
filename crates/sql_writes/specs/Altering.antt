-- The contract of a call over the connection that a transaction lends, as it is before the call and after it.
use Rattle.std.specs.Prelude.{◌≡◌, ℕ, Result}
use Rattle.sqlite.specs.Effect.{Database}
use Rattle.sqlite.specs.Held.{Held, state}
use Rattle.sqlite.specs.State.{State}
use Rattle.sqlite.specs.declared.error.Error.{Error}
use Rattle.sqlite_trees.specs.declared.store.Store.{Ghosts}
use Rattle.sql_tables.specs.Stored.{Stored}
use Rattle.sql_tables.specs.Writing.{Changes}
use Rattle.sql_writes.specs.Excused.{IsExcused, Takes}
use Rattle.sql_writes.specs.Making.{Leads}

-- the rows change so
abbrev pub Alters : {S Answer Fault : Type 0} → Ghosts S → Held S → Held S → Result Answer Fault → (Stored → Stored) → Type 0
Alters ghosts old new result change = Changes (state ghosts old) (state ghosts new) result change

-- statements change the rows in some way, which is this one if such a thing is true of the rows
pub record ChangesWhere {Answer Fault : Type 0} (old new : State) (result : Result Answer Fault) (Fits : Stored → Type 0) (change : Stored → Stored) : Type 0 where
  pub made : Stored → Stored
  pub changes : Changes old new result made
  pub same : (stored : Stored) → Fits stored → made stored ≡ change stored

-- the rows change so, if such a thing is true of them
abbrev pub AltersWhere : {S Answer Fault : Type 0} → Ghosts S → Held S → Held S → Result Answer Fault → (Stored → Type 0) → (Stored → Stored) → Type 0
AltersWhere ghosts old new result Fits change = ChangesWhere (state ghosts old) (state ghosts new) result Fits change

-- such a database becomes such a one
abbrev pub Turns : {S Answer Fault : Type 0} → Ghosts S → Held S → Held S → Result Answer Fault → (Database → Type 0) → (Database → Type 0) → Type 0
Turns ghosts old new result From To = Leads (state ghosts old) (state ghosts new) result From To

-- so many rows come, into tables of which such a thing is true, and a refusal has an excuse if there is room for them
abbrev pub TakesRoom : {S Answer : Type 0} → Ghosts S → Held S → Held S → Result Answer Error → ℕ → (Stored → Type 0) → Type 0
TakesRoom ghosts old new result rows Fits = Takes (state ghosts old) (state ghosts new) result rows Fits

-- a refusal in such a database has an excuse
abbrev pub RefusesExcused : {S Answer : Type 0} → Ghosts S → Held S → Held S → Result Answer Error → (Database → Type 0) → Type 0
RefusesExcused ghosts old new result From = IsExcused (state ghosts old) (state ghosts new) result From
