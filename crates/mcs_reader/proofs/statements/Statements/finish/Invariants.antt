use Rattle.std.proofs.Common.{◌≡◌, List}
use Rattle.mcs_reader.specs.Unread.{with_statements}
use Rattle.mcs_reader.specs.declared.statement.Statement.{Statement}
use Rattle.mcs_reader.proofs.statements.Statements.finish.Given as goal

-- some statements stand in front of those that are left
abbrev pub invariant-left : goal.invariant-left
invariant-left l = (passed : List Statement) × (l.initial.left.reading ≡ with_statements passed l.left.reading)

abbrev pub decreases-left : goal.decreases-left
decreases-left l = l.left.bytes
