use Rattle.std.proofs.Common.{◌≡◌, List, []}
use Rattle.std.specs.List.{flat_map}
use Rattle.mcs_reader.specs.Unread.{with_statements}
use Rattle.mcs_reader.specs.declared.statement.Statement.{Statement}
use Rattle.holddata.specs.Statements.{changes_of, faults_of}
use Rattle.report_runs.proofs.holds.changes_by.Given as goal

-- these are the changes of the statements so far, of which none has a fault
abbrev pub invariant-statements : goal.invariant-statements
invariant-statements l = (done : List Statement) × record {
  read : l.initial.statements.reading ≡ with_statements done l.statements.reading;
  faultless : flat_map faults_of done ≡ [];
  made : changes_of done ≡ l.changes.items;
}

abbrev pub decreases-statements : goal.decreases-statements
decreases-statements l = l.statements.bytes
