-- the empty lines of the bytes are those seen and those of the rest
use Rattle.std.proofs.Common.{◌≡◌, ◌+◌, length}
use Rattle.requests.specs.HeadEnd.{empty_lines_len}
use Rattle.requests.proofs.head_end.empty_lines_len.Given as goal

abbrev pub invariant-loop-first : goal.invariant-loop-first
invariant-loop-first l = record {
  value : empty_lines_len l.bytes ≡ l.len + empty_lines_len l.rest;
  within : l.len + length l.rest ≡ length l.bytes;
}

abbrev pub decreases-loop-first : goal.decreases-loop-first
decreases-loop-first l = length l.rest
