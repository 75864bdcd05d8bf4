-- The rows that a query of one table finds: those that pass its tests, by the columns that it shows.
use Rattle.std.specs.Prelude.{ℕ, Bool, List, [], ◌∷◌, map, filter, false}
use Rattle.std.specs.List.{list_all}
use Rattle.std.specs.Str.{bytes_eq}
use Rattle.sqlite.specs.Term.{Term}
use Rattle.sqlite.specs.declared.types.Value.{Value}
use Rattle.sqlite.specs.declared.types.Value.TheVariants.{Null, Int, Real, Text, Blob}
use Rattle.sqlite_sql.specs.Term.{eval_all, holds}
use Rattle.sqlite_value.specs.Order.{Row, column}

-- the columns at these indices
abbrev pub shown : List ℕ → Row → Row
shown indices row = map (column row) indices

-- a row passes each test, with these parameters
abbrev pub passes : Row → List Term → Row → Bool
passes params tests row = list_all (holds (params ∷ row ∷ [])) tests

-- the same of a row of one table and a row of another
abbrev pub passes_with : Row → List Term → Row → Row → Bool
passes_with params tests first second = list_all (holds (params ∷ first ∷ second ∷ [])) tests

-- what a query shows of a row of one table with each row of the other that passes with it
abbrev pub pairs_shown : Row → List Term → List Term → Row → List Row → List Row
pairs_shown params tests project first seconds =
    map (λ second. eval_all project (params ∷ first ∷ second ∷ [])) (filter (passes_with params tests first) seconds)

-- whether a value is this text
abbrev pub is_text : List ℕ → Value → Bool
is_text text (Text t) = bytes_eq t text
is_text text (Blob b) = false
is_text text (Int n) = false
is_text text (Real x) = false
is_text text Null = false
