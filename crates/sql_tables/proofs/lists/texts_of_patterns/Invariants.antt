use Rattle.std.proofs.Common.{◌≡◌, ◌++◌, drop}
use Rattle.mcs_reader.specs.Bytes.{bytes_of_each}
use Rattle.sql_tables.proofs.lists.texts_of_patterns.Given as goal

-- the texts so far, with those to come, are all
abbrev pub invariant-loop-pattern : goal.invariant-loop-pattern
invariant-loop-pattern l = bytes_of_each l.texts.items ++ drop l.pattern-index l.patterns ≡ l.patterns
