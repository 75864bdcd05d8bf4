use Rattle.std.proofs.Common.{◌≡◌, ◌<◌, ℕ, get_or, length, take}
use Rattle.requisites.specs.Reversed.{times}
use Rattle.requisites.proofs.reversed.counts.Given as goal

abbrev pub invariant-loop-node : goal.invariant-loop-node
invariant-loop-node l = record {
  len : length l.counts.items ≡ l.len;
  times : (q : ℕ) → q < l.len → get_or l.counts.items q 0 ≡ times (take l.node-index l.listed) q;
}
