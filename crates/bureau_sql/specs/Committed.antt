-- The connection at rest that a change leaves: it is committed whole, or not at all.
use Rattle.std.specs.Prelude.{◌≡◌, IsTrue, OnErr, OnOk, Result}
use Rattle.sqlite.specs.Effect.{Database}
use Rattle.sqlite.specs.State.{HasCleanDisk, KeepsCommit, State, Survives}
use Rattle.sqlite_catalog.specs.Listing.{IsSound}
use Rattle.sqlite_trees.specs.Tree.{Trees}
use Rattle.sql_texts.specs.Schema.{bureau}
use Rattle.sql_tables.specs.InTrees.{stored_in}
use Rattle.sql_tables.specs.Stored.{Stored}
use Rattle.sql_tables.specs.Numbered.{AreNumbered}
use Rattle.sql_tables.specs.Ours.{IsOurs, held_by}

-- The trees list the tables of version 2 and obey them. Their rows are those of a database with this change, under numbers that
-- rise, and the version is the same.
pub record HaveChange (database : Database) (change : Stored → Stored) (trees : Trees) : Type 0 where
  pub sound : IsSound bureau trees
  pub numbered : AreNumbered trees
  pub version : trees 0 ≡ database.trees 0
  pub rows : stored_in trees ≡ change (held_by database)

-- the same of what was committed, if the connection was open and its database ours
abbrev pub AreChanged : State → (Stored → Stored) → Trees → Type 0
AreChanged old change trees = IsTrue old.is_open → IsOurs old.committed → HaveChange old.committed change trees

pub record IsCommitted {Answer Fault : Type 0} (old new : State) (result : Result Answer Fault) (change : Stored → Stored) : Type 0 where
  pub done : OnOk result (HasCleanDisk new → IsTrue new.is_open
      × (IsOurs old.committed → (new.committed.schema ≡ bureau) × HaveChange old.committed change new.committed.trees))
  pub refused : OnErr result (HasCleanDisk new → KeepsCommit old new)
  -- a stop may leave the change, or else what it might have left before
  pub survives : Survives old new (AreChanged old change)
