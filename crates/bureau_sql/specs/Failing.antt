-- Why a right change isn't written, other than for want of memory.
use Rattle.std.specs.Prelude.{◌≡◌, ◌⊎◌, ℕ, IsTrue, Err, IfErr, IsOk, IsSome, Result}
use Rattle.bureau_store.specs.Store.{Update}
use Rattle.bureau_store.specs.declared.fault.StoreFault.{StoreFault}
use Rattle.bureau_store.specs.declared.fault.StoreFault.TheVariants.{Device, Memory}
use Rattle.sqlite.specs.Effect.{Database}
use Rattle.sqlite.specs.State.{HasCleanDisk, State}
use Rattle.sqlite.specs.Steps.{FailsToCommit}
use Rattle.sqlite.specs.declared.error.Error.{Error}
use Rattle.sqlite_trees.specs.Tree.{Trees}
use Rattle.sqlite_trees.specs.declared.store.Store.{Ghosts}
use Rattle.sql_tables.specs.Reading.{HasFailed}
use Rattle.sql_writes.specs.Excused.{Excuses}
use Rattle.sql_writes.specs.Room.{AreUpTo, HasRoom}
use Rattle.bureau_sql.specs.SqlState.{SqlState}
use Rattle.bureau_sql.specs.SqlView.{IsOurStore, shown}

-- The device has failed since, for example because it is full; or the connection was closed; or a statement may take only so
-- many steps.
abbrev pub CannotWrite : State → State → Type 0
CannotWrite old new = HasFailed old new ⊎ IsSome old.step_limit

-- The tables have room for a change: what it writes is short enough for a row, and the numbers of rows suffice.
abbrev pub HaveRoom : Trees → Update → Type 0
HaveRoom trees update = (most : ℕ) × AreUpTo most trees × HasRoom update.effect update.last most

-- Why a store that is open and ours refuses a change: memory ran out; or its tables have no room for the change; or it couldn't be
-- written; or memory was too short to see whether the connection was still open, and the store closed.
abbrev pub FailsToChange : {S : Type 0} → Ghosts S → Update → SqlState S → SqlState S → StoreFault → Type 0
FailsToChange g update old new fault =
    HasCleanDisk (shown g new) → IsOurStore g old → old.failures ≡ 0
    → (fault ≡ Memory)
    ⊎ ((HaveRoom (shown g old).committed.trees update → ⊥)
    ⊎ (CannotWrite (shown g old) (shown g new) ⊎ ((fault ≡ Device) × IsTrue new.unseen)))

-- ---- No part of what is promised: private contracts cite it.

-- A transaction ends in this error: that of what was written in it, or that of its commit.
abbrev pub FailsToEnd : {Answer : Type 0} → Result Answer Error → State → State → Error → Type 0
FailsToEnd written old new error = (written ≡ Err error) ⊎ (IsOk written × FailsToCommit old new error)

-- a refusal of a connection at rest has an excuse, if what was committed is such a database
abbrev pub RefusesExcused : {Answer : Type 0} → State → State → Result Answer Error → (Database → Type 0) → Type 0
RefusesExcused old new result From = IfErr result (λ error. HasCleanDisk new → From old.committed → Excuses old new error)
