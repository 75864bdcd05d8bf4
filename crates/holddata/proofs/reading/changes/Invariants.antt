use Rattle.std.proofs.Common.{◌≡◌, ◌++◌, drop}
use Rattle.holddata.specs.Statements.{first_fault, changes_of}
use Rattle.holddata.proofs.reading.changes.Given as goal

-- the changes so far with those to come are all, and the first fault is still to come, if there is one
abbrev pub invariant-loop-statement : goal.invariant-loop-statement
invariant-loop-statement l =
    record {
      changes : l.changes.items ++ changes_of (drop l.statement-index l.statements) ≡ changes_of l.statements;
      fault : first_fault (drop l.statement-index l.statements) ≡ first_fault l.statements;
    }
