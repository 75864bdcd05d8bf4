use Rattle.std.proofs.Common.{◌≡◌, ◌∷◌, drop}
use Rattle.mcs_reader.specs.Bytes.{bytes_of_each}
use Rattle.holddata.specs.Categories.{ascends}
use Rattle.holddata.proofs.categories.are_ascending.Given as goal

-- the answer is that of the last text seen and those to come
abbrev pub invariant-loop-text : goal.invariant-loop-text
invariant-loop-text l = ascends (l.below ∷ bytes_of_each (drop l.text-index l.rest)) ≡ ascends (bytes_of_each l.texts)
