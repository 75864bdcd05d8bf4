-- One step of the machine that reads line by line.
use Rattle.std.proofs.Common.{◌≡◌, ℕ, zero, suc, List, [], ◌∷◌, ◌++◌, Ok, Err, refl, sym, ap, append_assoc}
use Rattle.mcs_reader.specs.Position.{verb_at}
use Rattle.mcs_reader.specs.ReadLines.{at_verb, read_lines}
use Rattle.mcs_reader.specs.Unread.{Read, with_statements}
use Rattle.mcs_reader.specs.declared.statement.Statement.{Statement}

pub read_lines-end : (n line : ℕ) → read_lines n line [] ≡ Ok []
unfolding read_lines
read_lines-end zero line = refl
read_lines-end (suc n) line = refl

pub read_lines-step : (n line b : ℕ) (text : List ℕ) → read_lines (suc n) line (b ∷ text) ≡ at_verb (read_lines n) line (b ∷ text) (verb_at (b ∷ text))
unfolding read_lines
read_lines-step n line b text = refl

pub with_statements-append : (a b : List Statement) (read : Read) → with_statements a (with_statements b read) ≡ with_statements (a ++ b) read
with_statements-append a b (Ok statements) = ap (λ s. Ok s) (sym (append_assoc a b statements))
with_statements-append a b (Err fault) = refl

pub with_statements-none : (read : Read) → with_statements [] read ≡ read
with_statements-none (Ok statements) = refl
with_statements-none (Err fault) = refl
