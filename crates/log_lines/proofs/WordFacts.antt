-- Words: numbers, and what is shown of a text.
use Rattle.std.proofs.Common.{◌≡◌, ℕ, ◌+◌, ◌%◌, ◌^◌, ◌<◌, ◌≤◌, ◌&&◌, ◌==◌, Bool, true, false, List, [], ◌∷◌, ◌++◌, length, map, take, nat_le, if◌then◌else◌, decimal, refl, sym, ap, ◌∙◌, subst, arith, length-append}
use Rattle.std.proofs.lemmas.Bool.Decides.{nat_tests}
use Rattle.std.proofs.lemmas.Fmt.{decimal_by_steps}
use Rattle.std.proofs.lemmas.List.{length-map, take_all}
use Rattle.log_lines.specs.Words.{AreShown, IsShown, IsWord, shown, word_of}

pub shown_on : (xs ys : List ℕ) → AreShown xs → AreShown ys → AreShown (xs ++ ys)
shown_on [] ys h k = k
shown_on (x ∷ xs) ys h k = (h.0, shown_on xs ys h.1 k)

-- a number is a word
pub decimal_shown : (n : ℕ) → n < 2 ^ 64 → (1 ≤ length (decimal n)) × AreShown (decimal n)
decimal_shown =
    decimal_by_steps (λ n ds. (1 ≤ length ds) × AreShown ds)
    (λ n low. (omega arith, ((omega arith, omega arith), tt)))
    (λ n ds high h. (let e = length-append ds ((48 + n % 10) ∷ []) in omega arith, shown_on ds ((48 + n % 10) ∷ []) h.1 ((omega arith, omega arith), tt)))

-- each byte is shown as a printed character
pub byte_shown : (b : ℕ) → IsShown (shown b)
byte_shown b = by_test (nat_le 33 b && nat_le b 126) refl
  where
    by_test : (t : Bool) → (nat_le 33 b && nat_le b 126) ≡ t → IsShown (if t then b else 63)
    by_test true is = (grind (arith, nat_tests), grind (arith, nat_tests))
    by_test false is = (omega arith, omega arith)

pub map_shown : (text : List ℕ) → AreShown (map shown text)
map_shown [] = tt
map_shown (b ∷ text) = (byte_shown b, map_shown text)

word_by : (text items : List ℕ) → items ≡ map shown (take 64 text) → 1 ≤ length (take 64 text) → items ≡ word_of text
word_by [] items is some = absurd (omega arith)
word_by (b ∷ text) items is some = is

-- all bytes of a front were shown
pub word_shown : (text front items : List ℕ) (index : ℕ) → front ≡ take 64 text → items ≡ map shown (take index front) → length front ≤ index → 1 ≤ length front
    → items ≡ word_of text
word_shown text front items index is shows all some =
    word_by text items (shows ∙ ap (map shown) (take_all index front all ∙ is)) (subst (λ l. 1 ≤ length l) is some)

pub word_whole : (front items : List ℕ) (index : ℕ) → items ≡ map shown (take index front) → length front ≤ index → 1 ≤ length front → length front ≤ 64
    → IsWord items
word_whole front items index shows all some short =
    let is : items ≡ map shown front = shows ∙ ap (map shown) (take_all index front all) in
    let count : length (map shown front) ≡ length front = length-map front shown in
    subst IsWord (sym is) (omega arith, omega arith, map_shown front)

pub some_of : (text : List ℕ) → false ≡ (length text == 0) → 1 ≤ length text
some_of [] is = absurd (cc)
some_of (b ∷ text) is = omega arith
