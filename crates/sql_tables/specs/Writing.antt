-- The connection that a statement leaves which writes in a transaction.
use Rattle.std.specs.Prelude.{◌≡◌, IsTrue, Result, OnOk}
use Rattle.sqlite.specs.Effect.{Database, IsDatabase}
use Rattle.sqlite.specs.State.{HasCleanDisk, KeepsCommit, State, Survives}
use Rattle.sql_tables.specs.Stored.{Stored}
use Rattle.sql_texts.specs.Schema.{bureau}
use Rattle.sql_tables.specs.Numbered.{AreNumbered}
use Rattle.sql_tables.specs.Ours.{held_by}

-- the tables of version 2 with rows that obey it and are numbered, as the transaction sees them
pub record IsKnown (database : Database) : Type 0 where
  pub schema : database.schema ≡ bureau
  pub sound : IsDatabase database
  pub numbered : AreNumbered database.trees

-- One or more statements of a transaction: they commit nothing. Done, they make this change of the rows that the transaction
-- sees, and the transaction stays open; they leave the version as it is. Refused, a stop and the committed rows are as
-- before.
pub record Changes {Answer Fault : Type 0} (old new : State) (result : Result Answer Fault) (change : Stored → Stored) : Type 0 where
  pub keeps : HasCleanDisk new → IsTrue old.in_transaction → KeepsCommit old new
  pub survives : Survives old new (λ trees. ⊥)
  pub done : OnOk result (HasCleanDisk new → IsTrue old.in_transaction → IsTrue new.is_open × IsTrue new.in_transaction
      × (IsKnown old.now → IsKnown new.now × (held_by new.now ≡ change (held_by old.now)) × (new.now.trees 0 ≡ old.now.trees 0)))
