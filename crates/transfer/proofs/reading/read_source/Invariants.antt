-- what was read so far was consumed, and stays within the limit
use Rattle.std.proofs.Common.{◌≤◌, ◌-◌, length}
use Rattle.std.specs.Io.KnownBytes.{Consumes}
use Rattle.transfer.proofs.reading.read_source.Given as goal

abbrev pub invariant-loop-source : goal.invariant-loop-source
invariant-loop-source g l = record {
  bytes : Consumes (g.R.Read.remaining l.initial.reader) (g.R.Read.remaining l.reader) l.source;
  within : length l.source ≤ l.limit;
  counted : l.retries ≤ l.initial.retries;
}

abbrev pub decreases-loop-source : goal.decreases-loop-source
decreases-loop-source g l = l.limit - length l.source
