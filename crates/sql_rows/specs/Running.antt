-- No part of what is promised: private contracts cite it. The state after one statement that ran in a transaction.
use Rattle.std.specs.Prelude.{ℕ, List, Err, IfErr, IsTrue, Ok, OnOk, Result}
use Rattle.sqlite.specs.Order.{Row}
use Rattle.sqlite.specs.State.{Executes, ExecutesInside, HasCleanDisk, KeepsCommit, State, Survives}
use Rattle.sqlite.specs.declared.error.Error.{Error}

-- this text ran with these parameters, if the call succeeds
pub record Ran {Answer Fault : Type 0} (text : List ℕ) (params : Row) (old new : State) (result : Result Answer Fault) : Type 0 where
  pub keeps : HasCleanDisk new → IsTrue old.in_transaction → KeepsCommit old new
  pub survives : Survives old new (λ trees. ⊥)
  pub done : OnOk result (HasCleanDisk new → IsTrue old.in_transaction → IsTrue new.is_open × IsTrue new.in_transaction
      × ((count : ℕ) × Executes text params old new (Ok count)))

-- the facts if the call is refused
abbrev pub FailsInside : {Answer : Type 0} → List ℕ → Row → State → State → Result Answer Error → Type 0
FailsInside text params old new result =
    IfErr result (λ error. HasCleanDisk new → IsTrue old.in_transaction → ExecutesInside 0 text params old new (Err error))
