use Rattle.std.proofs.Common.{◌≡◌, ◌++◌, drop}
use Rattle.std.specs.List.{join_with_byte}
use Rattle.mcs_reader.specs.Bytes.{bytes_of_each}
use Rattle.holddata.proofs.TextFacts.{each_after_comma}
use Rattle.holddata.proofs.categories.join_with_commas.Given as goal

-- the text so far, with the texts to come after commas, is the whole
abbrev pub invariant-loop-text : goal.invariant-loop-text
invariant-loop-text l = l.joined.items ++ each_after_comma (bytes_of_each (drop l.text-index l.rest)) ≡ join_with_byte 44 (bytes_of_each l.texts)
