-- no head ends in what was seen, and no byte was lost
use Rattle.std.proofs.Common.{◌≡◌, ℕ, ◌≤◌, ◌-◌, length, take, Err}
use Rattle.std.specs.Io.KnownBytes.{Keeps, prepend_known}
use Rattle.requests.specs.HeadEnd.{IsAtHand, front_of, head_limit}
use Rattle.requests.specs.Search.{search}
use Rattle.requests.specs.declared.head_end.Ending.TheVariants.{EmptyLines}
use Rattle.requests.proofs.front.read_front.Given as goal

abbrev pub invariant-loop-count : goal.invariant-loop-count
invariant-loop-count g l = record {
  kept : Keeps (prepend_known l.initial.intake (g.R.Read.remaining l.initial.reader)) (prepend_known l.intake (g.R.Read.remaining l.reader));
  within : l.seen ≤ length l.intake;
  limit : l.seen ≤ 16384;
  at_hand : IsAtHand (front_of head_limit l.initial.intake) → (l.intake ≡ l.initial.intake) × (l.reader ≡ l.initial.reader);
  no_further : (limit : ℕ) → 16384 ≤ limit → length l.initial.intake ≤ limit → length l.intake ≤ limit;
  none : search EmptyLines (take l.seen l.intake) ≡ Err l.ending;
  counted : l.retries ≤ l.initial.retries;
}

abbrev pub decreases-loop-count : goal.decreases-loop-count
decreases-loop-count g l = 16384 - length l.intake
