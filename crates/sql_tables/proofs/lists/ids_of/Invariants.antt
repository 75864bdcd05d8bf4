use Rattle.std.proofs.Common.{◌≡◌, ◌++◌, drop}
use Rattle.std.specs.Prelude.{option_map}
use Rattle.mcs_reader.specs.Bytes.{bytes_of_each}
use Rattle.sql_tables.specs.Values.{ids_of}
use Rattle.sql_tables.proofs.lists.ids_of.Given as goal

-- the ids so far, with those to come, are all
abbrev pub invariant-loop-text : goal.invariant-loop-text
invariant-loop-text l = option_map (λ rest. l.ids.items ++ rest) (ids_of (bytes_of_each (drop l.text-index l.texts))) ≡ ids_of (bytes_of_each l.texts)
