-- No table of the bureau, no key of one and no index has a name that is used before it is made.
use Rattle.std.proofs.Common.{◌≡◌, ◌+◌, ◌&&◌, ℕ, Bool, true, List, [], ◌∷◌, length, refl}
use Rattle.sqlite_schema.specs.Names.{same_name}
use Rattle.sql_texts.specs.Creation.{Creation, creations, of_index, of_table}
use Rattle.sql_texts.specs.Schema.{bureau_version, made}
use Rattle.sql_writes.proofs.DefineFacts.{is_new, is_new_index}

-- where so many of the tables and of the indexes are there, what comes next is new, and so is what comes after it
abbrev pub are_new : ℕ → ℕ → List Creation → Bool
are_new so_many so_many_indexes [] = true
are_new so_many so_many_indexes (of_table table ∷ later) =
    is_new (made so_many so_many_indexes) (made (so_many + 1) (so_many_indexes + length table.uniques)) table
    && are_new (so_many + 1) (so_many_indexes + length table.uniques) later
are_new so_many so_many_indexes (of_index place table index ∷ later) =
    is_new_index (made so_many so_many_indexes) table index && are_new so_many (so_many_indexes + 1) later

pub first_is_new : is_new (made 0 0) (made 1 0) bureau_version ≡ true
unfolding same_name
first_is_new = refl

pub others_are_new : are_new 1 0 creations ≡ true
unfolding same_name
others_are_new = refl
