use Rattle.std.proofs.Common.{◌≡◌}
use Rattle.mcs_reader.specs.Unread.{with_statements}
use Rattle.mcs_reader.proofs.source.collect.Given as goal

-- the statements so far stand in front of those that are left
abbrev pub invariant-left : goal.invariant-left
invariant-left l = l.initial.left.reading ≡ with_statements l.statements.items l.left.reading

abbrev pub decreases-left : goal.decreases-left
decreases-left l = l.left.bytes
