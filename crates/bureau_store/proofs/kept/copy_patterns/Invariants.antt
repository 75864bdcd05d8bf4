use Rattle.std.proofs.Common.{◌≡◌, ◌++◌, drop}
use Rattle.bureau_store.proofs.kept.copy_patterns.Given as goal

-- the copies so far and what is left to copy
abbrev pub invariant-loop-pattern : goal.invariant-loop-pattern
invariant-loop-pattern l = l.copy.items ++ drop l.pattern-index l.patterns ≡ l.patterns
