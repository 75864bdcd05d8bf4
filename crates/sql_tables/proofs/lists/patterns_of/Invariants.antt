use Rattle.std.proofs.Common.{◌≡◌, ◌++◌, drop}
use Rattle.std.specs.Prelude.{option_map}
use Rattle.mcs_reader.specs.Bytes.{bytes_of_each}
use Rattle.sql_tables.specs.Values.{patterns_of}
use Rattle.sql_tables.proofs.lists.patterns_of.Given as goal

-- the patterns so far, with those to come, are all
abbrev pub invariant-loop-text : goal.invariant-loop-text
invariant-loop-text l = option_map (λ rest. l.patterns.items ++ rest) (patterns_of (bytes_of_each (drop l.text-index l.texts))) ≡ patterns_of (bytes_of_each l.texts)
