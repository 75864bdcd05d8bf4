use Rattle.std.proofs.Common.{◌≡◌, Ok, false, take, List}
use Rattle.sqlite.specs.Held.{state}
use Rattle.sql_reads.specs.declared.fault.ReadFault.{ReadFault}
use Rattle.sql_checks.specs.Checked.{Looks}
use Rattle.sql_checks.specs.Tally.{HasTallied}
use Rattle.sql_checks.specs.declared.tallies.CallerLine.{CallerLine}
use Rattle.sql_checks.proofs.tallies.lines.Given as goal

-- the callers so far are tallied
abbrev pub invariant-loop-caller : goal.invariant-loop-caller
invariant-loop-caller g l = record {
  looks : Looks {Answer = List CallerLine} {Fault = ReadFault} (state g.S.Store l.fn.conn) (state g.S.Store l.conn) (Ok l.lines.items)
      (λ database lines. HasTallied (take l.caller-index l.callers) database lines);
  mode : l.conn.in_transaction ≡ false;
}
