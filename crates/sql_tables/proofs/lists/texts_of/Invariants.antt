use Rattle.std.proofs.Common.{◌≡◌, ◌++◌, drop, map}
use Rattle.mcs_reader.specs.Bytes.{bytes_of_each}
use Rattle.mcs_reader.specs.Id.{text_of}
use Rattle.sql_tables.proofs.lists.texts_of.Given as goal

-- the texts so far, with those to come, are all
abbrev pub invariant-loop-id : goal.invariant-loop-id
invariant-loop-id l = bytes_of_each l.texts.items ++ map text_of (drop l.id-index l.ids) ≡ map text_of l.ids
