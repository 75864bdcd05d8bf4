-- no byte was lost
use Rattle.std.proofs.Common.{◌≡◌, ◌≤◌, ◌-◌, length, take}
use Rattle.std.specs.Io.KnownBytes.{Keeps, prepend_known}
use Rattle.requests.proofs.front.read_whole.Given as goal

abbrev pub invariant-loop-intake : goal.invariant-loop-intake
invariant-loop-intake g l = record {
  kept : Keeps (prepend_known l.initial.intake (g.R.Read.remaining l.initial.reader)) (prepend_known l.intake (g.R.Read.remaining l.reader));
  at_hand : l.count ≤ length l.initial.intake → (l.intake ≡ l.initial.intake) × (l.reader ≡ l.initial.reader);
  no_further : length l.initial.intake ≤ l.count → length l.intake ≤ l.count;
  longer : length l.initial.intake ≤ length l.intake;
  grown : take (length l.initial.intake) l.intake ≡ l.initial.intake;
  counted : l.retries ≤ l.initial.retries;
}

abbrev pub decreases-loop-intake : goal.decreases-loop-intake
decreases-loop-intake g l = l.count - length l.intake
