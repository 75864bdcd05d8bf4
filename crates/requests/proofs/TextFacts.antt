-- Texts of a head.
use Rattle.std.proofs.Common.{◌≡◌, ◌≢◌, ◌⊎◌, ℕ, ◌+◌, ◌*◌, ◌==◌, ◌<◌, ◌≤◌, ◌||◌, not, Bool, true, false, List, [], ◌∷◌, length, take, drop, min, nat_le, suc, if◌then◌else◌, refl, sym, ap, ◌∙◌, inl, inr, arith}
use Rattle.std.proofs.Math.Nat.{eq-or-lt_of_le, min-eq_left, min-eq_right}
use Rattle.std.proofs.lemmas.Bool.Decides.{nat_tests}
use Rattle.std.proofs.lemmas.List.{drop-drop}
use Rattle.std.proofs.lemmas.List.Sums.{prefix_len-le-length, suffix_len-le-length}
use Rattle.std.specs.List.{list_any, prefix_len, suffix_len}
use Rattle.std.proofs.lemmas.Bool.{or_left}
use Rattle.lemmas.proofs.TestFacts.{either_order}
use Rattle.requests.specs.Text.{before, before_len, after, comma, elements, has_word, is_blank, is_word, with_first}
use Rattle.requests.proofs.HeadEndFacts.{none_of_more, same_more}

pub cut_fits : (byte : ℕ) (text : List ℕ) → before_len byte text ≤ length text
cut_fits byte text = prefix_len-le-length _ text

-- what is left after the first byte of a rest
pub rest_after : (byte n b : ℕ) (text rest more : List ℕ) → n ≡ before_len byte text → rest ≡ drop n text → rest ≡ b ∷ more
    → more ≡ after byte text
rest_after byte n b text rest more count is_rest is_more =
    ap (drop 1) (sym is_more ∙ is_rest) ∙ drop-drop 1 n text ∙ ap (λ k. drop (k + 1) text) count

pub leading_fits : (text : List ℕ) → prefix_len is_blank text ≤ length text
leading_fits text = prefix_len-le-length is_blank text

pub trailing_fits : (text : List ℕ) → suffix_len is_blank text ≤ length text
trailing_fits text = suffix_len-le-length is_blank text

-- ---- comma lists

-- a list's first element, and those after the comma if there is one
abbrev parts : ℕ → List ℕ → List (List ℕ)
parts n text = take n text ∷ (if n == length text then [] else elements (drop (n + 1) text))

drop_next : (n b : ℕ) (text : List ℕ) → drop (n + 1) text ≡ drop ((1 + n) + 1) (b ∷ text)
drop_next n b text = let e : suc (n + 1) ≡ (1 + n) + 1 = omega arith in ap (λ k. drop k (b ∷ text)) e

take_next : (n b : ℕ) (text : List ℕ) → b ∷ take n text ≡ take (1 + n) (b ∷ text)
take_next n b text = let e : suc n ≡ 1 + n = omega arith in ap (λ k. take k (b ∷ text)) e

next_parts : (n b : ℕ) (text : List ℕ) → with_first b (parts n text) ≡ parts (1 + n) (b ∷ text)
next_parts n b text =
    ap (λ first. first ∷ (if n == length text then [] else elements (drop (n + 1) text))) (take_next n b text)
    ∙ ap (λ t. take (1 + n) (b ∷ text) ∷ (if t then [] else elements (drop (n + 1) text))) (same_more n (length text))
    ∙ ap (λ rest. take (1 + n) (b ∷ text) ∷ (if (1 + n) == suc (length text) then [] else elements rest)) (drop_next n b text)

zero_parts : (b : ℕ) (text : List ℕ) → [] ∷ elements text ≡ parts 0 (b ∷ text)
zero_parts b text = ap (λ t. [] ∷ (if t then [] else elements text)) (none_of_more (length text))

elements_step : (t : Bool) (b : ℕ) (text : List ℕ) → elements text ≡ parts (before_len comma text) text
    → (if t then [] ∷ elements text else with_first b (elements text)) ≡ parts (if not t then 1 + before_len comma text else 0) (b ∷ text)
elements_step true b text e = zero_parts b text
elements_step false b text e = ap (with_first b) e ∙ next_parts (before_len comma text) b text

elements_are : (text : List ℕ) → elements text ≡ parts (before_len comma text) text
elements_are [] = refl
elements_are (b ∷ text) = elements_step (b == comma) b text (elements_are text)

or_false : (a b : Bool) → a ≡ false → (a || b) ≡ b
or_false true b e = cc
or_false false b e = refl

-- the first element is the word
pub word_first : (word text first : List ℕ) → first ≡ before comma text → is_word word first ≡ true → has_word word text ≡ true
word_first word text first is e = ap (list_any (is_word word)) (elements_are text) ∙ or_left _ _ (ap (is_word word) (sym is) ∙ e)

only_first : (word text : List ℕ) (t : Bool) → t ≡ true
    → list_any (is_word word) (if t then [] else elements (after comma text)) ≡ false
only_first word text true e = refl
only_first word text false e = cc

more_than_first : (word text : List ℕ) (t : Bool) → t ≡ false
    → list_any (is_word word) (if t then [] else elements (after comma text)) ≡ has_word word (after comma text)
more_than_first word text true e = cc
more_than_first word text false e = refl

-- the only element isn't the word
pub word_nowhere : (word text first : List ℕ) → first ≡ before comma text → is_word word first ≡ false
    → before_len comma text ≡ length text → has_word word text ≡ false
word_nowhere word text first is e whole =
    ap (list_any (is_word word)) (elements_are text) ∙ or_false _ _ (ap (is_word word) (sym is) ∙ e)
    ∙ only_first word text (before_len comma text == length text) (grind (arith, nat_tests))

-- the first element isn't the word, and there are others
pub word_after : (word text first : List ℕ) → first ≡ before comma text → is_word word first ≡ false
    → before_len comma text ≢ length text → has_word word text ≡ has_word word (after comma text)
word_after word text first is e more =
    ap (list_any (is_word word)) (elements_are text) ∙ or_false _ _ (ap (is_word word) (sym is) ∙ e)
    ∙ more_than_first word text (before_len comma text == length text) (grind (arith, nat_tests))

-- ---- numbers

min_is : (a b : ℕ) → ((a ≤ b) × (min a b ≡ a)) ⊎ ((b ≤ a) × (min a b ≡ b))
min_is a b = elim (either_order (nat_le a b) a b refl) [ inl h ↦ inl (h, min-eq_left h) | inr h ↦ inr (h, min-eq_right h) ]

-- what a number that stops at its limit says of a value
pub record IsUpTo (most value number : ℕ) : Type 0 where
  pub exact : value ≤ most → number ≡ value
  pub over : most < value → most ≤ number

at_most : (most value number : ℕ) → number ≤ most → IsUpTo most value number → most ≤ value → (number ≡ value) ⊎ (number ≡ most)
at_most most value number small is high = elim (either_order (nat_le value most) value most refl) [
  | inl low ↦ inl (is.exact low)
  | inr low ↦ elim (eq-or-lt_of_le high) [ inl e ↦ inl (is.exact (omega arith)) | inr l ↦ inr (let r : most ≤ number = is.over l in omega arith) ]
]

-- one digit more, in arithmetic that stops at the greatest number
pub digit_more : (most value number digit greatest times_ten next : ℕ) → most ≤ greatest → number ≤ most → IsUpTo most value number
    → times_ten ≡ min (number * 10) greatest → next ≡ min (times_ten + digit) greatest
    → IsUpTo most (value * 10 + digit) next
digit_more most value number digit greatest times_ten next fits small is ten more = record {
  exact = λ low.
      let within : value ≤ most = omega arith in
      let same : number ≡ value = is.exact within in
      elim (min_is (number * 10) greatest) [
        | inl a ↦ elim (min_is (times_ten + digit) greatest) [ inl b ↦ omega arith | inr b ↦ omega arith ]
        | inr a ↦ elim (min_is (times_ten + digit) greatest) [ inl b ↦ omega arith | inr b ↦ omega arith ]
      ];
  over = λ high.
      let reached : (number ≡ value) ⊎ (number ≡ most) = elim (either_order (nat_le value most) value most refl) [
        | inl low ↦ inl (is.exact low)
        | inr low ↦ at_most most value number small is low
      ] in
      elim reached [
        | inl same ↦ elim (min_is (number * 10) greatest) [
          | inl a ↦ elim (min_is (times_ten + digit) greatest) [ inl b ↦ omega arith | inr b ↦ omega arith ]
          | inr a ↦ elim (min_is (times_ten + digit) greatest) [ inl b ↦ omega arith | inr b ↦ omega arith ]
        ]
        | inr same ↦ elim (min_is (number * 10) greatest) [
          | inl a ↦ elim (min_is (times_ten + digit) greatest) [ inl b ↦ omega arith | inr b ↦ omega arith ]
          | inr a ↦ elim (min_is (times_ten + digit) greatest) [ inl b ↦ omega arith | inr b ↦ omega arith ]
        ]
      ];
}
