-- the text so far, and what is left to decode
use Rattle.std.proofs.Common.{◌≡◌, ◌++◌}
use Rattle.percent_encoding.specs.Iter.{decoded_bytes}
use Rattle.percent_encoding.specs.Percent.{percent_decode}
use Rattle.requests.proofs.place.id_in.Given as goal

abbrev pub invariant-loop-byte : goal.invariant-loop-byte
invariant-loop-byte l = record { whole : percent_decode l.part ≡ l.text.items ++ decoded_bytes l.byte-iterator }
