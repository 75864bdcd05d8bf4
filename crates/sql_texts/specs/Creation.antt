-- The tables and the index of version 2, as texts create them one after the other.
use Rattle.std.specs.Prelude.{◌≡◌, ℕ, ◌+◌, List, [], ◌∷◌, ◌++◌, Some, drop, length, map, slice_get, take}
use Rattle.std.specs.Borrow.{Bor}
use Rattle.sqlite.specs.Table.{Table}
use Rattle.sqlite_schema.specs.declared.schema.Index.{Index}
use Rattle.sql_texts.specs.Meaning.{MakesIndex, MakesTable}
use Rattle.sql_texts.specs.Schema.{by_member, indexes, made, sysmod_sup, tables}

-- what one text creates: a table with its keys, or an index on the table at a place
pub data Creation : Type 0 where
  of_table : Table → Creation
  of_index : ℕ → Table → Index → Creation

-- The table of the version is there first. Then come the others in their order, and the index after its table.
abbrev pub creations : List Creation
creations =
    map of_table (drop 1 (take 5 tables)) ++ of_index 4 sysmod_sup by_member ∷ map of_table (drop 5 tables)

-- If so many of the tables and of the indexes are there, these texts create these, one after the other, and then all are
-- there.
abbrev pub CreateAll : ℕ → ℕ → List Creation → List (Bor (List ℕ)) → Type 0
CreateAll so_many so_many_indexes [] [] = (so_many ≡ length tables) × (so_many_indexes ≡ length indexes)
CreateAll so_many so_many_indexes [] (text ∷ texts) = ⊥
CreateAll so_many so_many_indexes (creation ∷ later) [] = ⊥
CreateAll so_many so_many_indexes (of_table table ∷ later) (text ∷ texts) =
    MakesTable (made so_many so_many_indexes) text.now table
    (made (so_many + 1) (so_many_indexes + length table.uniques))
    × CreateAll (so_many + 1) (so_many_indexes + length table.uniques) later texts
CreateAll so_many so_many_indexes (of_index place table index ∷ later) (text ∷ texts) =
    (slice_get (made so_many so_many_indexes).tables place ≡ Some table)
    × MakesIndex (made so_many so_many_indexes) text.now place table index (made so_many (so_many_indexes + 1))
    × CreateAll so_many (so_many_indexes + 1) later texts
