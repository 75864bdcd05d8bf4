use Rattle.std.proofs.Common.{◌≤◌, drop, length}
use Rattle.bureau_store.specs.Kept.{KnowsNames}
use Rattle.bureau_store.proofs.set_callers.tokens_by_name.Given as goal

-- the callers from here on are known
abbrev pub invariant-loop-left : goal.invariant-loop-left
invariant-loop-left l = record {
  within : l.left ≤ length l.rows;
  known : KnowsNames l.by_name.entries (drop l.left l.rows);
}

abbrev pub decreases-loop-left : goal.decreases-loop-left
decreases-loop-left l = l.left
