use Rattle.std.proofs.Common.{◌≡◌, ◌++◌, length}
use Rattle.report_runs.specs.Amounts.{grouped}
use Rattle.report_runs.proofs.amounts.push_grouped.Given as goal

-- the text, with the digits that are left, is all of it
abbrev pub invariant-digits : goal.invariant-digits
invariant-digits l = l.text.items ++ grouped l.left ≡ l.fn.text.items ++ grouped l.digits

abbrev pub decreases-digits : goal.decreases-digits
decreases-digits l = length l.left
