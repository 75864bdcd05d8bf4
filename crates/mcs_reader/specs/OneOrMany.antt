-- No part of what is promised: private contracts cite it. The values of a list, as they are kept.
use Rattle.std.specs.Prelude.{ℕ, List, [], ◌∷◌}
use Rattle.mcs_reader.specs.Bytes.{bytes_of_each}
use Rattle.mcs_reader.specs.declared.statement.OneOrMany.{OneOrMany}
use Rattle.mcs_reader.specs.declared.statement.OneOrMany.TheVariants.{One, Many}

abbrev pub bytes_in : OneOrMany → List (List ℕ)
bytes_in (One value) = value.now ∷ []
bytes_in (Many items) = bytes_of_each items.items
