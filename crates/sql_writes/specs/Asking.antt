-- No part of what is promised: private contracts cite it. Whether a table has rows, as a read finds it.
use Rattle.std.specs.Prelude.{◌≡◌, ℕ, Bool, false, IsTrue, List, [], ◌∷◌, Result, pos}
use Rattle.std.specs.List.{list_any}
use Rattle.sqlite.specs.Held.{Held, state}
use Rattle.sqlite.specs.Query.{Query}
use Rattle.sqlite.specs.State.{HasCleanDisk, State}
use Rattle.sqlite.specs.Term.{lit}
use Rattle.sqlite.specs.declared.error.Error.{Error}
use Rattle.sqlite.specs.declared.types.Value.TheVariants.{Int}
use Rattle.sqlite_trees.specs.declared.store.Store.{Ghosts}
use Rattle.sqlite_value.specs.Order.{Row}
use Rattle.catalogue.specs.declared.change.Change.{Change}
use Rattle.sql_texts.specs.Reads.{from_table}
use Rattle.sql_tables.specs.Stored.{Stored}
use Rattle.sql_tables.specs.Ours.{held_by}
use Rattle.sql_tables.specs.Writing.{Changes, IsKnown}
use Rattle.sql_writes.specs.Excused.{Takes}
use Rattle.sql_writes.specs.Records.{AreFree, IsBare}

-- the rowid of one row of a tree, if it has any
abbrev pub first_in : ℕ → Query
first_in tree = record (from_table tree [] (0 ∷ []) []) { limit = lit (Int (pos 1)) }

-- reads leave all rows as they are, and add none
pub record LeavesRows {Answer : Type 0} (old new : State) (result : Result Answer Error) : Type 0 where
  pub changes : Changes old new result (λ stored. stored)
  pub takes : Takes old new result 0 (λ stored. Unit {0})

abbrev pub Asks : {S Answer : Type 0} → Ghosts S → Held S → Held S → Result Answer Error → Type 0
Asks ghosts old new result = LeavesRows (state ghosts old) (state ghosts new) result

-- the answer says whether rows of a table pass a test
abbrev pub FindsAny : {S : Type 0} → Ghosts S → Held S → Held S → (Stored → List Row) → (Row → Bool) → Bool → Type 0
FindsAny ghosts old new rows test found =
    HasCleanDisk (state ghosts new) → IsKnown (state ghosts old).now
    → list_any test (rows (held_by (state ghosts old).now)) ≡ found

-- if the answer denies that a table has rows, it has none; and the database is as it was
abbrev pub FindsRows : {S : Type 0} → Ghosts S → Held S → Held S → (Stored → List Row) → Bool → Type 0
FindsRows ghosts old new rows found =
    HasCleanDisk (state ghosts new) → IsKnown (state ghosts old).now
    → ((state ghosts new).now ≡ (state ghosts old).now)
    × (found ≡ false → rows (held_by (state ghosts old).now) ≡ [])

-- if the answer says so, no record is catalogued, and no record has rows of superseded ids or of requisites under a
-- condition
abbrev pub FindsBare : {S : Type 0} → Ghosts S → Held S → Held S → Bool → Type 0
FindsBare ghosts old new bare =
    IsTrue bare → HasCleanDisk (state ghosts new) → IsKnown (state ghosts old).now
    → IsBare (held_by (state ghosts old).now)

-- if the answer says so, the ids of these records have no rows
abbrev pub FindsFree : {S : Type 0} → Ghosts S → Held S → Held S → List Change → Bool → Type 0
FindsFree ghosts old new changes free =
    IsTrue free → HasCleanDisk (state ghosts new) → IsKnown (state ghosts old).now
    → AreFree changes (held_by (state ghosts old).now)
