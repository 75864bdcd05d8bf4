use Rattle.std.proofs.Common.{◌≤◌, drop, length}
use Rattle.sql_writes.specs.Records.{AreApart}
use Rattle.sql_writes.proofs.publication.are_apart.Given as goal

abbrev pub invariant-loop-at : goal.invariant-loop-at
invariant-loop-at l = record {
  within : l.at ≤ length l.changes;
  apart : AreApart (drop l.at l.changes);
}

abbrev pub decreases-loop-at : goal.decreases-loop-at
decreases-loop-at l = l.at
