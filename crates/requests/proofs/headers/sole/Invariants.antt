-- what was found is all that has the name so far, and lies in the bytes
use Rattle.std.proofs.Common.{◌≡◌, length, take, option_map, option_to_list, IfSome}
use Rattle.httparse.specs.Spans.{IsWithin, span_bytes}
use Rattle.requests.specs.Headers.{values, pairs_at}
use Rattle.requests.proofs.headers.sole.Given as goal

abbrev pub invariant-loop-field : goal.invariant-loop-field
invariant-loop-field l = record {
  all : option_to_list (option_map (span_bytes l.bytes) l.found) ≡ values l.name (take l.field-index (pairs_at l.bytes l.fields));
  within : IfSome l.found (IsWithin (length l.bytes));
}
