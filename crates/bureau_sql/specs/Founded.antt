-- The connection at rest after a transaction that leads from one kind of database to another.
use Rattle.std.specs.Prelude.{◌≡◌, ◌≢◌, ◌↔◌, ◌⊎◌, IsTrue, List, OnErr, OnOk, Result}
use Rattle.bureau_store.specs.Store.{IsOfCall}
use Rattle.bureau_store.specs.declared.caller.CallerRow.{CallerRow}
use Rattle.bureau_store.specs.declared.fault.StoreFault.{StoreFault}
use Rattle.bureau_store.specs.declared.fault.StoreFault.TheVariants.{Memory, Shape}
use Rattle.sqlite.specs.Effect.{Database}
use Rattle.sqlite.specs.State.{HasCleanDisk, KeepsCommit, State, Survives}
use Rattle.sqlite_trees.specs.Tree.{Trees}
use Rattle.sql_writes.specs.Making.{AreFit, IsEmpty, IsOpened}
use Rattle.bureau_sql.specs.Failing.{CannotWrite}

-- the connection was open, and the trees are those of a database of the second kind if what was committed is of the first
abbrev pub AreLed : State → (Database → Type 0) → (Database → Type 0) → Trees → Type 0
AreLed old From To trees = IsTrue old.is_open × (From old.committed → (database : Database) × To database × (database.trees ≡ trees))

pub record IsLed {Answer Fault : Type 0} (old new : State) (result : Result Answer Fault) (From To : Database → Type 0) : Type 0 where
  pub done : OnOk result (HasCleanDisk new → IsTrue old.is_open × IsTrue new.is_open × (From old.committed → To new.committed))
  pub refused : OnErr result (HasCleanDisk new → KeepsCommit old new)
  -- a stop may leave such a database, or else what it might have left before
  pub survives : Survives old new (AreLed old From To)

-- what was committed is an empty database, and the trees are those of a store with these callers and nothing else
abbrev pub AreFounded : State → List CallerRow → Trees → Type 0
AreFounded old callers trees =
    IsTrue old.is_open × IsEmpty old.committed × ((database : Database) × IsOpened callers database × (database.trees ≡ trees))

-- Why a store isn't made: if the connection is open, the fault is `Shape` exactly if the database isn't empty.
pub record IsNotMade (at : State) (fault : StoreFault) : Type 0 where
  pub taken : IsTrue at.is_open → (fault ≡ Shape) ↔ (IsEmpty at.committed → ⊥)
  pub other : fault ≢ Shape → IsOfCall fault

-- And if the database is empty, it is want of memory, or it couldn't be written.
abbrev pub IsNotFounded : State → State → StoreFault → Type 0
IsNotFounded at new fault = IsEmpty at.committed → (fault ≡ Shape) ⊎ ((fault ≡ Memory) ⊎ CannotWrite at new)

-- It is so with callers that are fit.
abbrev pub FailsToFound : State → State → List CallerRow → StoreFault → Type 0
FailsToFound at new callers fault = AreFit callers → IsNotFounded at new fault
