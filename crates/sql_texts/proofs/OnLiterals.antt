-- What the tactic of `src/create.rt` unfolds to compute what a text creates.
use Rattle.std.specs.Prelude.{⊤}
use Rattle.sqlite.specs.Listing.{understood}
use Rattle.sqlite_tied.specs.Compute.{everything}
use Rattle.sqlite_trees.specs.Sound.{begins, fits_kind, is_free_name, same_name}
use Rattle.sqlite_value.specs.Order.{value_cmp}

unfoldable pub creation_on_literals : ⊤
unfolding understood everything begins fits_kind is_free_name same_name value_cmp lib.Ieee.is_nan lib.Ieee.lt
creation_on_literals = tt
