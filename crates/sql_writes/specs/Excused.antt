-- The excuses for a refused statement of a transaction, if its text is right and its values keep to the rules of the tables.
use Rattle.std.specs.Prelude.{◌≡◌, ◌⊎◌, ◌<◌, ◌+◌, ◌^◌, ℕ, IfErr, IsSome, IsTrue, OnOk, Result}
use Rattle.sqlite.specs.Effect.{Database}
use Rattle.sqlite.specs.State.{HasCleanDisk, State, store_error}
use Rattle.sqlite.specs.declared.error.Error.{Error}
use Rattle.sqlite_trees.specs.declared.error.StoreError.TheVariants.{OutOfMemory}
use Rattle.sql_tables.specs.Stored.{Stored}
use Rattle.sql_tables.specs.Ours.{held_by}
use Rattle.sql_tables.specs.Reading.{HasFailed}
use Rattle.sql_writes.specs.Room.{AreUpTo, IsRoomy}

-- Memory ran out. Or the device has failed since, or the connection was closed. Or a statement may take only so many steps.
abbrev pub Excuses : State → State → Error → Type 0
Excuses old new error = (error ≡ store_error OutOfMemory) ⊎ (HasFailed old new ⊎ IsSome old.step_limit)

-- a refusal has such an excuse, if the transaction saw such a database
abbrev pub IsExcused : {Answer : Type 0} → State → State → Result Answer Error → (Database → Type 0) → Type 0
IsExcused old new result From =
    IfErr result (λ error. HasCleanDisk new → IsTrue old.in_transaction → From old.now → Excuses old new error)

-- ---- No part of what is promised: private contracts cite it.

-- Statements that add so many rows, in tables of which such a thing is true: a refusal has an excuse if the tables have as
-- many numbers left. Done, no row has a higher number than they took.
pub record Takes {Answer : Type 0} (old new : State) (result : Result Answer Error) (rows : ℕ) (Fits : Stored → Type 0) : Type 0 where
  pub excused : (most : ℕ) → most + rows < 2 ^ 63 → IsExcused old new result (λ database. IsRoomy most database × Fits (held_by database))
  pub numbers : OnOk result (HasCleanDisk new → IsTrue old.in_transaction → (most : ℕ) → IsRoomy most old.now → AreUpTo (most + rows) new.now.trees)
