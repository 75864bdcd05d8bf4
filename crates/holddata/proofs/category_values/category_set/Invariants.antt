use Rattle.std.proofs.Common.{◌≡◌, drop}
use Rattle.mcs_reader.specs.Bytes.{bytes_of_each}
use Rattle.holddata.specs.Categories.{with_each, in_order}
use Rattle.holddata.proofs.category_values.category_set.Given as goal

-- the values to come make of the set what all of them make of none
abbrev pub invariant-loop-value : goal.invariant-loop-value
invariant-loop-value l = with_each (bytes_of_each l.set.keys) (bytes_of_each (drop l.value-index l.values)) ≡ in_order (bytes_of_each l.values)
