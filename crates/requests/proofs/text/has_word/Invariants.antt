-- the list has the word where the rest has it
use Rattle.std.proofs.Common.{◌≡◌, length}
use Rattle.requests.specs.Text.{has_word}
use Rattle.requests.proofs.text.has_word.Given as goal

abbrev pub invariant-loop-rest : goal.invariant-loop-rest
invariant-loop-rest l = record { same : has_word l.word l.list ≡ has_word l.word l.rest }

abbrev pub decreases-loop-rest : goal.decreases-loop-rest
decreases-loop-rest l = length l.rest
