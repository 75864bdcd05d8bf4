use Rattle.std.proofs.Common.{◌≡◌, ◌++◌, replicate}
use Rattle.requisites.proofs.rows.push_blanks.Given as goal

abbrev pub invariant-loop : goal.invariant-loop
invariant-loop l = l.entries.items ≡ l.initial.entries.items ++ replicate l.counter 0
