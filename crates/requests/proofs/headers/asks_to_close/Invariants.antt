-- no field so far asks to close
use Rattle.std.proofs.Common.{◌≡◌, false, take}
use Rattle.std.specs.List.{list_any}
use Rattle.requests.specs.Headers.{asks_to_close, pairs_at}
use Rattle.requests.proofs.headers.asks_to_close.Given as goal

abbrev pub invariant-loop-field : goal.invariant-loop-field
invariant-loop-field l = record { none : list_any asks_to_close (take l.field-index (pairs_at l.bytes l.fields)) ≡ false }
