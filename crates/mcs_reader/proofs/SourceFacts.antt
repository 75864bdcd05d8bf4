-- A step of the reader over a source, and how large its text is.
use Rattle.std.proofs.Common.{◌≡◌, ℕ, suc, ◌+◌, ◌-◌, ◌==◌, ◌≤◌, ◌<◌, Bool, true, false, cond, List, [], ◌∷◌, ◌++◌, length, Some, None, Ok, Err, refl, sym, ◌∙◌, ap, subst, arith, length-append, length-take}
use Rattle.mcs_reader.specs.Byte.{line_end}
use Rattle.mcs_reader.specs.Line.{with_front, lines, without_return, columns_1_to_72, text_of, text_of_lines, line_ends}
use Rattle.mcs_reader.specs.Pieces.{a_name}
use Rattle.mcs_reader.specs.Position.{Position, IsAfter, after_line, verb_at}
use Rattle.mcs_reader.specs.ReadLines.{at_verb, go_on, read_after, read_lines}
use Rattle.mcs_reader.specs.Unread.{with_statements}
use Rattle.mcs_reader.specs.Scan.{scan, stated}
use Rattle.mcs_reader.specs.declared.fault.McsFault.{McsFault}
use Rattle.mcs_reader.specs.declared.statement.Statement.{Statement}
use Rattle.mcs_reader.specs.declared.statement.Verb.{Verb}
use Rattle.mcs_reader.proofs.ReadFacts.{read_lines-end}
use Rattle.mcs_reader.proofs.RowFacts.{step}
use Rattle.mcs_reader.proofs.StepCountFacts.{any_steps, fits_after}

-- the size of a text

total : List (List ℕ) → ℕ
total [] = 0
total (line ∷ more) = length line + 1 + total more

total-with_front : (b : ℕ) (all : List (List ℕ)) → total (with_front b all) ≤ total all + 2
unfolding total
total-with_front b [] = omega arith
total-with_front b (line ∷ more) = omega arith

total-front : (b : ℕ) (line : List ℕ) (more : List (List ℕ)) → total (with_front b (line ∷ more)) ≡ 1 + total (line ∷ more)
unfolding total
total-front b line more = omega arith

no_lines : (b : ℕ) (source : List ℕ) → lines (b ∷ source) ≡ [] → ⊥
no_lines b source h = by_test (b == line_end) (lines source) h where
  by_test : (t : Bool) (rest : List (List ℕ)) → cond t ([] ∷ rest) (with_front b rest) ≡ [] → ⊥
  by_test true rest e = absurd (cc)
  by_test false [] e = absurd (cc)
  by_test false (line ∷ more) e = absurd (cc)

total-lines : (source : List ℕ) → total (lines source) ≤ length source + 1
unfolding total
total-lines [] = omega arith
total-lines (b ∷ []) = by_test (b == line_end) where
  by_test : (t : Bool) → total (cond t ([] ∷ []) ((b ∷ []) ∷ [])) ≤ length (b ∷ []) + 1
  by_test true = omega arith
  by_test false = omega arith
total-lines (b ∷ c ∷ source) = by_test (b == line_end) (lines (c ∷ source)) refl (total-lines (c ∷ source)) where
  by_test : (t : Bool) (rest : List (List ℕ)) → lines (c ∷ source) ≡ rest → total rest ≤ length (c ∷ source) + 1 → total (cond t ([] ∷ rest) (with_front b rest)) ≤ length (b ∷ c ∷ source) + 1
  by_test true rest e fits = omega arith
  by_test false [] e fits = absurd (no_lines c source e)
  by_test false (line ∷ more) e fits = omega arith

length-without_return : (line : List ℕ) → length (without_return line) ≤ length line
length-without_return [] = omega arith
length-without_return (b ∷ []) = by_test (b == 13) where
  by_test : (t : Bool) → length (cond t [] (b ∷ [])) ≤ length (b ∷ [])
  by_test true = omega arith
  by_test false = omega arith
length-without_return (b ∷ c ∷ line) = omega (arith, length-without_return (c ∷ line))

length-columns : (line : List ℕ) → length (columns_1_to_72 line) ≤ length line
length-columns line = omega (arith, length-take 72 (without_return line), length-without_return line)

length-text_of_lines : (all : List (List ℕ)) → length (text_of_lines all) ≤ total all
unfolding total
length-text_of_lines [] = omega arith
length-text_of_lines (line ∷ more) =
    omega (arith, length-append (columns_1_to_72 line ++ line_end ∷ []) (text_of_lines more), length-append (columns_1_to_72 line) (line_end ∷ []), length-columns line, length-text_of_lines more)

pub length-text_of : (source : List ℕ) → length (text_of source) ≤ length source + 1
unfolding text_of
length-text_of source = omega (arith, length-text_of_lines (lines source), total-lines source)

pub line_ends-le-length : (text : List ℕ) → line_ends text ≤ length text
line_ends-le-length [] = omega arith
line_ends-le-length (b ∷ text) = by_test (b == line_end) (line_ends-le-length text) where
  by_test : (t : Bool) → line_ends text ≤ length text → cond t 1 0 + line_ends text ≤ length (b ∷ text)
  by_test true fits = omega arith
  by_test false fits = omega arith

-- a position within a source that isn't too long has headroom for its numbers
pub headroom : (source : List ℕ) (position : Position) → length source ≤ 67108864 → IsAfter position (record { text = line_end ∷ text_of source; line = 0 })
    → (length position.text ≤ 67108866) × (position.line + line_ends position.text ≤ 67108866)
headroom source position fits after =
    let size = length-text_of source in
    let ends = line_ends-le-length (text_of source) in
    (omega (arith, after.text), omega (arith, after.lines))

-- steps

line_ends-after_line : (text : List ℕ) → 0 < length (after_line text) → line_ends text ≡ 1 + line_ends (after_line text)
line_ends-after_line [] more = absurd (omega arith)
line_ends-after_line (b ∷ text) more = by_test (b == line_end) more (line_ends-after_line text) where
  by_test : (t : Bool) → 0 < length (cond t text (after_line text)) → (0 < length (after_line text) → line_ends text ≡ 1 + line_ends (after_line text))
      → cond t 1 0 + line_ends text ≡ 1 + line_ends (cond t text (after_line text))
  by_test true some rest = refl
  by_test false some rest = omega (arith, rest some)

-- the line that follows a statement, counted from its beginning and from its end
next_lines : (m line_before line_now : ℕ) (before now : List ℕ) (after : List ℕ) → after_line now ≡ after → line_now + line_ends now ≡ line_before + line_ends before → line_before ≤ line_now
    → read_lines m (line_before + (line_ends before - line_ends after)) after ≡ read_lines m (line_now + 1) after
next_lines m line_before line_now before now [] at sums passed = read_lines-end m (line_before + (line_ends before - 0)) ∙ sym (read_lines-end m (line_now + 1))
next_lines m line_before line_now before now (b ∷ after) at sums passed =
    let P : List ℕ → Type 0 = λ t. 0 < length t in
    let some : 0 < length (after_line now) = subst P (sym at) (omega arith) in
    let ends : line_ends now ≡ 1 + line_ends (b ∷ after) = line_ends-after_line now some ∙ ap (λ t. 1 + line_ends t) at in
    ap (λ l. read_lines m l (b ∷ after)) (omega (arith, sums, ends, passed))

-- What is left to read at the beginning of a line, and after it.

-- one position begins the line after another
pub record Begins (now last : Position) : Type 0 where
  pub text : now.text ≡ after_line last.text
  pub line : now.line ≡ last.line + 1
  pub more : 0 < length now.text

-- the step at the beginning of the line, with more steps after it than are needed
abbrev Step : Position → Position → Type 0
Step last now = (m : ℕ) × (length now.text ≤ suc m) × (read_after last ≡ at_verb (read_lines m) now.line now.text (verb_at now.text))

step_at : (last now : Position) → Begins now last → Step last now
step_at last now at =
    let once = step (length now.text) now.line now.text at.more (omega arith) in (
      once.0,
      omega (arith, once.1),
      ap (λ t. read_lines (length t) (last.line + 1) t) (sym at.text) ∙ ap (λ l. read_lines (length now.text) l now.text) (sym at.line) ∙ once.2,
    )

-- a line that is passed over
pub passed_line : (last now : Position) → Begins now last → verb_at now.text ≡ None → read_after last ≡ read_after now
passed_line last now at none =
    let once = step_at last now at in
    once.2
    ∙ ap (at_verb (read_lines once.0) now.line now.text) none
    ∙ any_steps once.0 (length (after_line now.text)) (now.line + 1) (after_line now.text) (fits_after now.text (after_line now.text) once.0 refl once.1) (omega arith)

-- a statement
pub statement_line : (last now end : Position) (what : Verb) (after : List ℕ) (statement : Statement) → Begins now last → verb_at now.text ≡ Some (what, after)
    → stated what now.line (scan now.line 0 a_name false after) ≡ Ok (statement, end.text) → IsAfter end now
    → read_after last ≡ with_statements (statement ∷ []) (read_after end)
statement_line last now end what after statement at verb_is read is =
    let once = step_at last now at in
    let shorter = is.text in
    once.2
    ∙ ap (at_verb (read_lines once.0) now.line now.text) verb_is
    ∙ ap (go_on (read_lines once.0) now.line now.text) read
    ∙ ap (with_statements (statement ∷ []))
    (next_lines once.0 now.line end.line now.text end.text (after_line end.text) refl is.lines is.passed
    ∙ any_steps once.0 (length (after_line end.text)) (end.line + 1) (after_line end.text) (fits_after end.text (after_line end.text) once.0 refl (omega (arith, once.1, shorter))) (omega arith))

-- a statement that is refused
pub refused_line : (last now : Position) (what : Verb) (after : List ℕ) (fault : McsFault) → Begins now last → verb_at now.text ≡ Some (what, after)
    → stated what now.line (scan now.line 0 a_name false after) ≡ Err fault → read_after last ≡ Err fault
refused_line last now what after fault at verb_is refused =
    let once = step_at last now at in
    once.2
    ∙ ap (at_verb (read_lines once.0) now.line now.text) verb_is
    ∙ ap (go_on (read_lines once.0) now.line now.text) refused

-- the end of the text
pub no_line : (last : Position) → after_line last.text ≡ [] → read_after last ≡ Ok []
no_line last end = ap (λ t. read_lines (length t) (last.line + 1) t) end ∙ read_lines-end 0 (last.line + 1)
