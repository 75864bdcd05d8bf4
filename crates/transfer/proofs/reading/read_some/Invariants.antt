-- each turn that goes on was interrupted: it consumed nothing and used up a retry
use Rattle.std.proofs.Common.{◌≡◌, ◌≤◌, length}
use Rattle.std.specs.Io.KnownBytes.{Keeps}
use Rattle.transfer.proofs.reading.read_some.Given as goal

abbrev pub invariant-loop-count : goal.invariant-loop-count
invariant-loop-count g l = record {
  kept : Keeps (g.R.Read.remaining l.initial.reader) (g.R.Read.remaining l.reader);
  room : length l.buf ≡ length l.initial.buf;
  counted : l.retries ≤ l.initial.retries;
}

abbrev pub decreases-loop-count : goal.decreases-loop-count
decreases-loop-count g l = l.retries
