use Rattle.std.proofs.Common.{◌≤◌, drop, length}
use Rattle.bureau_store.specs.Kept.{KnowsTokens}
use Rattle.bureau_store.proofs.by_token.callers_by_token.Given as goal

-- the callers from here on are known
abbrev pub invariant-loop-left : goal.invariant-loop-left
invariant-loop-left l = record {
  within : l.left ≤ length l.rows;
  known : KnowsTokens (λ text. text.items) l.by_token.entries (drop l.left l.rows);
}

abbrev pub decreases-loop-left : goal.decreases-loop-left
decreases-loop-left l = l.left
