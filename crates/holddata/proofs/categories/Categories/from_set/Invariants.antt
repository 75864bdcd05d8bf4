use Rattle.std.proofs.Common.{◌≡◌, ◌++◌}
use Rattle.mcs_reader.specs.Bytes.{bytes_of_each}
use Rattle.holddata.proofs.categories.Categories.from_set.Given as goal

-- the texts so far with those to come are all texts of the set
abbrev pub invariant-loop-text : goal.invariant-loop-text
invariant-loop-text l = bytes_of_each l.list.items ++ bytes_of_each l.text-iterator ≡ bytes_of_each l.texts.keys
