-- What a line, its columns and the text of a source are, by positions.
use Rattle.std.proofs.Common.{◌≡◌, ℕ, zero, suc, ◌-◌, ◌==◌, ◌≤◌, ◌<◌, ◌&&◌, not, Bool, true, false, cond, List, [], ◌∷◌, ◌++◌, length, take, drop, get_or, refl, ◌∙◌, ap, arith, append_assoc}
use Rattle.std.proofs.lemmas.Bool.Decides.{nat_tests}
use Rattle.std.specs.List.{list_all}
use Rattle.mcs_reader.specs.Byte.{line_end}
use Rattle.mcs_reader.specs.Line.{with_front, lines, without_return, columns_1_to_72, text_of, text_of_lines}
use Rattle.mcs_reader.specs.Segment.{IsLine}
use Rattle.mcs_reader.proofs.RunFacts.{in_line}

eqb_false : (b : ℕ) → ((b == line_end) ≡ true → ⊥) → (b == line_end) ≡ false
eqb_false b wrong = by_test (b == line_end) refl where
  by_test : (t : Bool) → (b == line_end) ≡ t → (b == line_end) ≡ false
  by_test true e = absurd (wrong e)
  by_test false e = e

-- the first k bytes are the first line, where byte k is the first line end
pub lines-at : (s : List ℕ) (k : ℕ) → k < length s → ((j : ℕ) → 0 ≤ j → j < k → (get_or s j 0 == line_end) ≡ true → ⊥) → (get_or s k 0 == line_end) ≡ true
    → (lines s ≡ take k s ∷ lines (drop 1 (drop k s))) × IsLine (take k s)
lines-at [] k within before at = absurd (omega arith)
lines-at (b ∷ s) zero within before at = (ap (λ t. cond t ([] ∷ lines s) (with_front b (lines s))) at, refl)
lines-at (b ∷ s) (suc k) within before at =
    let r = lines-at s k (omega arith) (λ j low high. before (suc j) (omega arith) (omega arith)) at in
    let no_end = eqb_false b (before 0 (omega arith) (omega arith)) in (
      ap (λ t. cond t ([] ∷ lines s) (with_front b (lines s))) no_end ∙ ap (with_front b) r.0,
      ap (λ t. not t && list_all in_line (take k s)) no_end ∙ r.1,
    )

-- a source without a line end is one line
pub lines-one : (b : ℕ) (s : List ℕ) → ((j : ℕ) → 0 ≤ j → j < length (b ∷ s) → (get_or (b ∷ s) j 0 == line_end) ≡ true → ⊥)
    → (lines (b ∷ s) ≡ (b ∷ s) ∷ []) × IsLine (b ∷ s)
lines-one b [] before =
    let no_end = eqb_false b (before 0 (omega arith) (omega arith)) in
    (ap (λ t. cond t ([] ∷ []) ((b ∷ []) ∷ [])) no_end, ap (λ t. not t && true) no_end)
lines-one b (c ∷ s) before =
    let r = lines-one c s (λ j low high. before (suc j) (omega arith) (omega arith)) in
    let no_end = eqb_false b (before 0 (omega arith) (omega arith)) in (
      ap (λ t. cond t ([] ∷ lines (c ∷ s)) (with_front b (lines (c ∷ s)))) no_end ∙ ap (with_front b) r.0,
      ap (λ t. not t && list_all in_line (c ∷ s)) no_end ∙ r.1,
    )

pub lines-whole : (s : List ℕ) → 0 < length s → ((j : ℕ) → 0 ≤ j → j < length s → (get_or s j 0 == line_end) ≡ true → ⊥) → (lines s ≡ s ∷ []) × IsLine s
lines-whole [] some before = absurd (omega arith)
lines-whole (b ∷ s) some before = lines-one b s before

-- the carriage return at the end

without_return-at : (line : List ℕ) (k : ℕ) → length line ≡ suc k → get_or line k 0 ≡ 13 → without_return line ≡ take k line
without_return-at [] k size at = absurd (omega arith)
without_return-at (b ∷ []) zero size at = ap (λ t. cond t [] (b ∷ [])) (let is : b ≡ 13 = at in let test : (b == 13) ≡ true = grind (arith, nat_tests) in test)
without_return-at (b ∷ []) (suc k) size at = absurd (omega arith)
without_return-at (b ∷ c ∷ line) zero size at = absurd (omega arith)
without_return-at (b ∷ c ∷ line) (suc k) size at = ap (λ l. b ∷ l) (without_return-at (c ∷ line) k (omega arith) at)

no_return-at : (line : List ℕ) (k : ℕ) → length line ≡ suc k → (get_or line k 0 ≡ 13 → ⊥) → without_return line ≡ line
no_return-at [] k size other = refl
no_return-at (b ∷ []) zero size other = ap (λ t. cond t [] (b ∷ [])) (let test : (b == 13) ≡ false = grind (arith, nat_tests) in test)
no_return-at (b ∷ []) (suc k) size other = absurd (omega arith)
no_return-at (b ∷ c ∷ line) zero size other = absurd (omega arith)
no_return-at (b ∷ c ∷ line) (suc k) size other = ap (λ l. b ∷ l) (no_return-at (c ∷ line) k (omega arith) other)

pub without_return-return : (line : List ℕ) → 0 < length line → get_or line (length line - 1) 0 ≡ 13 → without_return line ≡ take (length line - 1) line
without_return-return line some at = without_return-at line (length line - 1) (omega arith) at

pub without_return-none : (line : List ℕ) → 0 < length line → (get_or line (length line - 1) 0 ≡ 13 → ⊥) → without_return line ≡ line
without_return-none line some other = no_return-at line (length line - 1) (omega arith) other

pub without_return-empty : (line : List ℕ) → length line ≤ 0 → without_return line ≡ line
without_return-empty [] empty = refl
without_return-empty (b ∷ line) empty = absurd (omega arith)

-- the text of a source, line by line

pub text_of-nil : text_of [] ≡ []
unfolding text_of
text_of-nil = refl

pub text_of-line : (source line after : List ℕ) → lines source ≡ line ∷ lines after → text_of source ≡ columns_1_to_72 line ++ line_end ∷ text_of after
unfolding text_of
text_of-line source line after is =
    ap text_of_lines is ∙ append_assoc (columns_1_to_72 line) (line_end ∷ []) (text_of_lines (lines after))

-- part of a line is one
pub IsLine-take : (n : ℕ) (line : List ℕ) → IsLine line → IsLine (take n line)
IsLine-take zero line is = refl
IsLine-take (suc n) [] is = refl
IsLine-take (suc n) (b ∷ line) is = by_test (b == line_end) is (IsLine-take n line) where
  by_test : (t : Bool) → (not t && list_all in_line line) ≡ true → (IsLine line → IsLine (take n line)) → (not t && list_all in_line (take n line)) ≡ true
  by_test true is rest = absurd (cc)
  by_test false is rest = rest is

IsLine-without_return : (line : List ℕ) → IsLine line → IsLine (without_return line)
IsLine-without_return [] is = refl
IsLine-without_return (b ∷ []) is = by_test (b == 13) where
  by_test : (t : Bool) → IsLine (cond t [] (b ∷ []))
  by_test true = refl
  by_test false = is
IsLine-without_return (b ∷ c ∷ line) is = by_test (b == line_end) is (IsLine-without_return (c ∷ line)) where
  by_test : (t : Bool) → (not t && list_all in_line (c ∷ line)) ≡ true → (IsLine (c ∷ line) → IsLine (without_return (c ∷ line))) → (not t && list_all in_line (without_return (c ∷ line))) ≡ true
  by_test true is rest = absurd (cc)
  by_test false is rest = rest is

pub IsLine-columns : (line : List ℕ) → IsLine line → IsLine (columns_1_to_72 line)
IsLine-columns line is = IsLine-take 72 (without_return line) (IsLine-without_return line is)
