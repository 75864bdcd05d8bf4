-- no field so far has the name
use Rattle.std.proofs.Common.{◌≡◌, false, take}
use Rattle.std.specs.List.{list_any}
use Rattle.requests.specs.Headers.{is_named, pairs_at}
use Rattle.requests.proofs.headers.has.Given as goal

abbrev pub invariant-loop-field : goal.invariant-loop-field
invariant-loop-field l = record { none : list_any (is_named l.name) (take l.field-index (pairs_at l.bytes l.fields)) ≡ false }
