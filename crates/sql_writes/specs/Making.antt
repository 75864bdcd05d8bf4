-- Making the tables of version 2 in an empty database.
use Rattle.std.specs.Prelude.{◌≡◌, ◌≤◌, ◌<◌, ◌+◌, ◌^◌, ℕ, suc, pos, IsTrue, List, [], ◌∷◌, length, map, slice_get, take, OnOk, Result, Some}
use Rattle.std.specs.List.{AllByRecursion}
use Rattle.mcs_reader.specs.Id.{text_of}
use Rattle.bureau_store.specs.declared.caller.CallerRow.{CallerRow}
use Rattle.sqlite.specs.Effect.{Database, IsDatabase}
use Rattle.sqlite.specs.Order.{Row}
use Rattle.sqlite.specs.State.{HasCleanDisk, KeepsCommit, State, Survives}
use Rattle.sqlite.specs.declared.types.Value.TheVariants.{Int}
use Rattle.sql_texts.specs.Schema.{made, tables}
use Rattle.sql_tables.specs.Rows.{caller_row}
use Rattle.sql_tables.specs.Stored.{opened}
use Rattle.sql_tables.specs.Ours.{held_by, version_rows}
use Rattle.sql_tables.specs.Writing.{IsKnown}

-- no table, no index and no view
abbrev pub IsEmpty : Database → Type 0
IsEmpty database = database.schema ≡ made 0 0

-- so many of the tables and of the indexes, and no rows
pub record IsMade (so_many so_many_indexes : ℕ) (database : Database) : Type 0 where
  pub schema : database.schema ≡ made so_many so_many_indexes
  pub sound : IsDatabase database
  pub empty : AllByRecursion (λ table. database.trees table.tree ≡ []) (take so_many tables)

-- rows of callers, under numbers that follow one another from this one on
abbrev pub caller_rows : ℕ → List CallerRow → List Row
caller_rows first [] = []
caller_rows first (caller ∷ callers) = (Int (pos first) ∷ caller_row caller) ∷ caller_rows (suc first) callers

-- all tables, with the version and these callers and no other row
pub record IsOpened (callers : List CallerRow) (database : Database) : Type 0 where
  pub known : IsKnown database
  pub version : database.trees 0 ≡ version_rows 2
  pub callers_are : database.trees 1 ≡ caller_rows 1 callers
  pub held : held_by database ≡ opened (map caller_row callers)

-- two callers with the same text of this kind are one
abbrev pub AreApart : (CallerRow → List ℕ) → List CallerRow → Type 0
AreApart text callers =
    (i j : ℕ) (one other : CallerRow) → slice_get callers i ≡ Some one → slice_get callers j ≡ Some other → text one ≡ text other → i ≡ j

-- Callers that can be written. No two have one name or one token. Neither a token nor their list is too long for a database,
-- in which a row has at most a billion bytes.
pub record AreFit (callers : List CallerRow) : Type 0 where
  pub names : AreApart (λ caller. text_of caller.name) callers
  pub tokens : AreApart (λ caller. caller.token) callers
  pub short : (i : ℕ) (one : CallerRow) → slice_get callers i ≡ Some one → length (text_of one.name) + length one.token + 100 ≤ 10 ^ 9
  pub few : length callers < 2 ^ 63

-- Statements of a transaction: they commit nothing. Done, they lead from such a database to such a one, as the transaction
-- sees them, and the transaction stays open. Refused, a stop and the committed rows are as before.
pub record Leads {Answer Fault : Type 0} (old new : State) (result : Result Answer Fault) (From To : Database → Type 0) : Type 0 where
  pub keeps : HasCleanDisk new → IsTrue old.in_transaction → KeepsCommit old new
  pub survives : Survives old new (λ trees. ⊥)
  pub done : OnOk result (HasCleanDisk new → IsTrue old.in_transaction → IsTrue new.is_open × IsTrue new.in_transaction × (From old.now → To new.now))
