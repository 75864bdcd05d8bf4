-- The longest run of bytes of a kind, and what stands after it; lines of a text.
use Rattle.std.proofs.Common.{◌≡◌, ℕ, ◌+◌, ◌==◌, ◌&&◌, not, Bool, true, false, cond, List, [], ◌∷◌, ◌++◌, refl, ◌∙◌, ap, subst, arith}
use Rattle.std.proofs.lemmas.Bool.Decides.{nat_tests}
use Rattle.std.specs.List.{list_all}
use Rattle.std.proofs.lemmas.Bool.{and_parts}
use Rattle.lemmas.proofs.TestFacts.{never}
use Rattle.mcs_reader.specs.Byte.{line_end}
use Rattle.mcs_reader.specs.Line.{line_ends, begins_statement}
use Rattle.mcs_reader.specs.Verb.{begins_with}
use Rattle.mcs_reader.specs.Segment.{IsLine}
use Rattle.mcs_reader.specs.Pieces.{is_word}
use Rattle.mcs_reader.specs.Position.{after_line}
use Rattle.mcs_reader.specs.Run.{run, after_run}

pub run-append-after_run : (test : ℕ → Bool) (text : List ℕ) → run test text ++ after_run test text ≡ text
run-append-after_run test [] = refl
run-append-after_run test (b ∷ text) = by_test (test b) (run-append-after_run test text) where
  by_test : (t : Bool) → run test text ++ after_run test text ≡ text → cond t (b ∷ run test text) [] ++ cond t (after_run test text) (b ∷ text) ≡ b ∷ text
  by_test true whole = ap (λ t. b ∷ t) whole
  by_test false whole = refl

pub all-run : (test : ℕ → Bool) (text : List ℕ) → list_all test (run test text) ≡ true
all-run test [] = refl
all-run test (b ∷ text) = by_test (test b) refl (all-run test text) where
  by_test : (t : Bool) → test b ≡ t → list_all test (run test text) ≡ true → list_all test (cond t (b ∷ run test text) []) ≡ true
  by_test true e all = ap (λ t. t && list_all test (run test text)) e ∙ all
  by_test false e all = refl

pub begins_with-after_run : (test : ℕ → Bool) (text : List ℕ) → begins_with test (after_run test text) ≡ false
begins_with-after_run test [] = refl
begins_with-after_run test (b ∷ text) = by_test (test b) refl (begins_with-after_run test text) where
  by_test : (t : Bool) → test b ≡ t → begins_with test (after_run test text) ≡ false → begins_with test (cond t (after_run test text) (b ∷ text)) ≡ false
  by_test true e after = after
  by_test false e after = e

pub run_is : (test : ℕ → Bool) (front text : List ℕ) → list_all test front ≡ true → begins_with test text ≡ false → run test (front ++ text) ≡ front
run_is test [] [] all ends = refl
run_is test [] (b ∷ text) all ends = ap (λ t. cond t (b ∷ run test text) []) ends
run_is test (b ∷ front) text all ends =
    let parts = and_parts (test b) (list_all test front) all in
    ap (λ t. cond t (b ∷ run test (front ++ text)) []) parts.0 ∙ ap (λ t. b ∷ t) (run_is test front text parts.1 ends)

pub after_run_is : (test : ℕ → Bool) (front text : List ℕ) → list_all test front ≡ true → begins_with test text ≡ false → after_run test (front ++ text) ≡ text
after_run_is test [] [] all ends = refl
after_run_is test [] (b ∷ text) all ends = ap (λ t. cond t (after_run test text) (b ∷ text)) ends
after_run_is test (b ∷ front) text all ends =
    let parts = and_parts (test b) (list_all test front) all in
    ap (λ t. cond t (after_run test (front ++ text)) (b ∷ (front ++ text))) parts.0 ∙ after_run_is test front text parts.1 ends

pub begins_with-front : (test : ℕ → Bool) (front text : List ℕ) → begins_with test (front ++ text) ≡ false → begins_with test front ≡ false
begins_with-front test [] text h = refl
begins_with-front test (b ∷ front) text h = h

pub begins_with-append : (test : ℕ → Bool) (front text : List ℕ) → begins_with test front ≡ false → begins_with test text ≡ false → begins_with test (front ++ text) ≡ false
begins_with-append test [] text none ends = ends
begins_with-append test (b ∷ front) text none ends = none

pub is_word-all : (test : ℕ → Bool) (b : ℕ) (w : List ℕ) → list_all test (b ∷ w) ≡ true → is_word test (b ∷ w) ≡ true
is_word-all test b [] all = (and_parts (test b) true all).0
is_word-all test b (c ∷ w) all =
    let parts = and_parts (test b) (list_all test (c ∷ w)) all in
    ap (λ t. cond t (is_word test (c ∷ w)) false) parts.0 ∙ is_word-all test c w parts.1

-- a run that isn't empty is a word
pub is_word-run : (test : ℕ → Bool) (b : ℕ) (text : List ℕ) → test b ≡ true → is_word test (run test (b ∷ text)) ≡ true
is_word-run test b text h =
    let P : List ℕ → Type 0 = λ l. list_all test l ≡ true in
    let cut : run test (b ∷ text) ≡ b ∷ run test text = ap (λ t. cond t (b ∷ run test text) []) h in
    ap (is_word test) cut ∙ is_word-all test b (run test text) (subst P cut (all-run test (b ∷ text)))

-- lines

abbrev pub in_line : ℕ → Bool
in_line b = not (b == line_end)

-- each line of the text ends
abbrev pub IsLines : List ℕ → Type 0
IsLines [] = Unit {0}
IsLines (b ∷ []) = b ≡ line_end
IsLines (b ∷ c ∷ text) = IsLines (c ∷ text)

pub IsLines-after : (front text : List ℕ) → IsLines (front ++ text) → IsLines text
IsLines-after [] text h = h
IsLines-after (b ∷ []) [] h = tt
IsLines-after (b ∷ []) (c ∷ text) h = h
IsLines-after (b ∷ c ∷ front) text h = IsLines-after (c ∷ front) text h

pub after_line-line : (line text : List ℕ) → IsLine line → after_line (line ++ line_end ∷ text) ≡ text
after_line-line [] text is = refl
after_line-line (b ∷ line) text is =
    let parts = and_parts (in_line b) (list_all in_line line) is in
    let no_end : (b == line_end) ≡ false = grind (arith, nat_tests) in
    ap (λ t. cond t (line ++ line_end ∷ text) (after_line (line ++ line_end ∷ text))) no_end ∙ after_line-line line text parts.1

pub IsLine-append : (a b : List ℕ) → IsLine a → IsLine b → IsLine (a ++ b)
IsLine-append [] b one two = two
IsLine-append (x ∷ a) b one two =
    let parts = and_parts (in_line x) (list_all in_line a) one in
    ap (λ t. t && list_all in_line (a ++ b)) parts.0 ∙ IsLine-append a b parts.1 two

pub IsLine-of : (test : ℕ → Bool) (text : List ℕ) → ((b : ℕ) → test b ≡ true → in_line b ≡ true) → list_all test text ≡ true → IsLine text
IsLine-of test [] imply all = refl
IsLine-of test (b ∷ text) imply all =
    let parts = and_parts (test b) (list_all test text) all in
    ap (λ t. t && list_all in_line text) (imply b parts.0) ∙ IsLine-of test text imply parts.1

-- the first line of a text whose lines end
pub first_line : (b : ℕ) (text : List ℕ) → IsLines (b ∷ text) → (line : List ℕ) × (rest : List ℕ) × IsLine line × (b ∷ text ≡ line ++ line_end ∷ rest)
first_line b [] ends = ([], [], refl, ap (λ n. n ∷ []) ends)
first_line b (c ∷ text) ends = by_test (b == line_end) refl (first_line c text ends) where
  by_test : (t : Bool) → (b == line_end) ≡ t → (line : List ℕ) × (rest : List ℕ) × IsLine line × (c ∷ text ≡ line ++ line_end ∷ rest)
      → (line : List ℕ) × (rest : List ℕ) × IsLine line × (b ∷ c ∷ text ≡ line ++ line_end ∷ rest)
  by_test true e r = ([], c ∷ text, refl, ap (λ n. n ∷ c ∷ text) (grind (arith, nat_tests)))
  by_test false e r = (b ∷ r.0, r.1, ap (λ t. not t && list_all in_line r.0) e ∙ r.2, ap (λ t. b ∷ t) r.3)

pub line_ends-append : (a b : List ℕ) → line_ends (a ++ b) ≡ line_ends a + line_ends b
line_ends-append [] b = omega arith
line_ends-append (x ∷ a) b = omega (arith, line_ends-append a b)

pub line_ends-line : (line : List ℕ) → IsLine line → line_ends line ≡ 0
line_ends-line [] is = refl
line_ends-line (b ∷ line) is =
    let parts = and_parts (in_line b) (list_all in_line line) is in
    let not_end : (b == line_end) ≡ false = grind (arith, nat_tests) in
    ap (λ t. cond t 1 0 + line_ends line) not_end ∙ omega (arith, line_ends-line line parts.1)

-- where a line ends, it begins a statement only by its own bytes
pub begins_statement-line : (line text : List ℕ) → begins_statement (line ++ line_end ∷ text) ≡ begins_statement line
begins_statement-line [] [] = refl
begins_statement-line [] (b ∷ text) = refl
begins_statement-line (b ∷ []) text = never (b == 43)
begins_statement-line (b ∷ c ∷ line) text = refl
