use Rattle.std.proofs.Common.{◌≡◌, length}
use Rattle.mcs_reader.specs.Scan.{after_comment}
use Rattle.mcs_reader.proofs.cursor.after_comment_in.Given as goal

-- no comment ends in the bytes so far
abbrev pub invariant-bytes : goal.invariant-bytes
invariant-bytes l = after_comment l.fn.columns ≡ after_comment l.left

abbrev pub decreases-bytes : goal.decreases-bytes
decreases-bytes l = length l.left
