use Rattle.std.proofs.Common.{◌≡◌, ◌<◌, length, drop}
use Rattle.mcs_reader.specs.Position.{IsAfter}
use Rattle.mcs_reader.specs.Scan.{after_comment}
use Rattle.mcs_reader.proofs.passing.pass_comment.Given as goal

-- the comment ends further on
abbrev pub invariant-lines : goal.invariant-lines
invariant-lines l = record {
  found : after_comment (drop 2 l.fn.cursor.text) ≡ after_comment l.cursor.text;
  shorter : length l.cursor.text < length l.fn.cursor.text;
  after : IsAfter l.cursor l.fn.cursor;
}

abbrev pub decreases-lines : goal.decreases-lines
decreases-lines l = length l.cursor.text
