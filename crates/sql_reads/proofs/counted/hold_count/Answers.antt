use Rattle.std.proofs.Common.{[], length, refl}
use Rattle.sql_tables.specs.Stored.{tables_of}
use Rattle.sql_texts.specs.Reads as read
use Rattle.sql_reads.proofs.CountFacts.{holds_counted}
use Rattle.sql_reads.proofs.counted.hold_count.Goals as goal

pub returns-clause-finds : goal.returns-clause-finds
returns-clause-finds g c =
    c.count.ensures.finds read.hold_count 0 [] (λ stored. length (tables_of stored).content.holds) c.hold_count.ensures refl holds_counted
