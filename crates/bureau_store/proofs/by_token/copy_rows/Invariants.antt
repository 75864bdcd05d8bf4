use Rattle.std.proofs.Common.{◌≡◌, ◌++◌, drop}
use Rattle.bureau_store.proofs.by_token.copy_rows.Given as goal

-- the copies so far and what is left to copy
abbrev pub invariant-loop-row : goal.invariant-loop-row
invariant-loop-row l = l.copy.items ++ drop l.row-index l.rows ≡ l.rows
