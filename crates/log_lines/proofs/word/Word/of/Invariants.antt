use Rattle.std.proofs.Common.{◌≡◌, map, take}
use Rattle.log_lines.specs.Words.{shown}
use Rattle.log_lines.proofs.word.Word.of.Given as goal

abbrev pub invariant-loop-byte : goal.invariant-loop-byte
invariant-loop-byte l = l.bytes.items ≡ map shown (take l.byte-index l.front)
