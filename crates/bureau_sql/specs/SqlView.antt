-- How contracts look at a store in a database, with all its tables.
use Rattle.std.specs.Prelude.{◌≡◌, ◌≤◌, IsTrue}
use Rattle.catalogue.specs.View.{View}
use Rattle.bureau_store.specs.Tables.{Tables}
use Rattle.sqlite.specs.State.{HasCleanDisk, State}
use Rattle.sqlite.specs.Held.{state}
use Rattle.sqlite_trees.specs.Tree.{Trees}
use Rattle.sqlite_trees.specs.declared.store.Store.{Ghosts}
use Rattle.sql_tables.specs.InTrees.{stored_in}
use Rattle.sql_tables.specs.Stored.{tables_of}
use Rattle.sql_tables.specs.Ours.{AreOurs, IsOurs, held_by}
use Rattle.sql_tables.specs.Reading.{OnlyReads}
use Rattle.bureau_sql.specs.SqlState.{SqlState}

-- a stop of an open connection leaves what is committed, and nothing else
abbrev pub IsAtRest : State → Type 0
IsAtRest at = (trees : Trees) → IsTrue at.is_open → at.may_leave trees → trees ≡ at.committed.trees

module _ {S : Type 0} (g : Ghosts S) where
  -- the state of its connection
  abbrev pub shown : SqlState S → State
  shown store = state g store.conn

  -- the tables that its committed rows stand for
  abbrev pub tables_in : SqlState S → Tables
  tables_in store = tables_of (held_by (shown store).committed)

  -- A stop leaves rows that the bureau wrote. Until the first failure its connection is open, and its database is ours.
  abbrev pub IsOurStore : SqlState S → Type 0
  IsOurStore store =
      ((trees : Trees) → (shown store).may_leave trees → AreOurs trees)
      × (store.failures ≡ 0 → IsTrue (shown store).is_open × IsOurs (shown store).committed)

  -- A read commits nothing, and the connection stays open if no failure is counted.
  pub record Stays (old new : SqlState S) : Type 0 where
    pub reads : OnlyReads (shown old) (shown new)
    pub failures_rise : old.failures ≤ new.failures
    pub stays_open : new.failures ≡ 0 → HasCleanDisk (shown new) → IsTrue (shown old).is_open → IsTrue (shown new).is_open

  -- Until the first failure the tables are those of the committed rows. A stop leaves the tables of rows that the
  -- database may be found with.
  abbrev pub sql_view : View (SqlState S) Tables
  sql_view = record {
    stands = λ store this. store.failures ≡ 0 → tables_in store ≡ this;
    is_clean = λ store. HasCleanDisk (shown store);
    is_ours = IsOurStore;
    failures = λ store. store.failures;
    may_leave = λ store this. (trees : Trees) × (shown store).may_leave trees × (tables_of (stored_in trees) ≡ this);
    keeps = Stays;
  }
