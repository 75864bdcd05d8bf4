-- the search of all bytes is that of those that are left
use Rattle.std.proofs.Common.{◌≡◌, drop}
use Rattle.requests.specs.Search.{search, further}
use Rattle.requests.proofs.head_end.find_end.Given as goal

abbrev pub invariant-loop-i : goal.invariant-loop-i
invariant-loop-i l = record { same : search l.fn.start l.bytes ≡ further l.i (search l.ending (drop l.i l.bytes)) }
