-- A date prints as it was written.
use Rattle.std.proofs.Common.{◌≡◌, ℕ, ◌+◌, ◌-◌, ◌*◌, ◌/◌, ◌%◌, ◌<◌, ◌≤◌, true, List, [], ◌∷◌, length, arith}
use Rattle.std.specs.Char.{is_ascii_digit, digit_value}
use Rattle.std.specs.List.{list_all}
use Rattle.std.specs.Str.Parse.{digits_value}
use Rattle.std.proofs.lemmas.Bool.{and_parts}
use Rattle.std.proofs.lemmas.Bool.Decides.{nat_tests}
use Rattle.holddata.specs.Date.{date_digits}

record IsDigit (x : ℕ) : Type 0 where
  value : digit_value x ≡ x - 48
  low : 48 ≤ x
  high : x < 58

digit : (x : ℕ) → is_ascii_digit x ≡ true → IsDigit x
digit x h = record { value = grind (arith, nat_tests); low = grind (arith, nat_tests); high = grind (arith, nat_tests) }

quotients : (n a b c d e : ℕ) → a < 10 → b < 10 → c < 10 → d < 10 → e < 10 → n ≡ (((a * 10 + b) * 10 + c) * 10 + d) * 10 + e → (n / 10000 ≡ a) × (n / 1000 % 10 ≡ b) × (n / 100 % 10 ≡ c) × (n / 10 % 10 ≡ d) × (n % 10 ≡ e)
quotients n a b c d e ha hb hc hd he h = (omega arith, omega arith, omega arith, omega arith, omega arith)

written : (va vb vc vd ve a b c d e : ℕ) → va ≡ a → vb ≡ b → vc ≡ c → vd ≡ d → ve ≡ e → ((((0 + va) * 10 + vb) * 10 + vc) * 10 + vd) * 10 + ve ≡ (((a * 10 + b) * 10 + c) * 10 + d) * 10 + e
written va vb vc vd ve a b c d e ha hb hc hd he = omega arith

back : (m x : ℕ) → m ≡ x - 48 → 48 ≤ x → 48 + m ≡ x
back m x h g = omega arith

pub digits_again : (text : List ℕ) → length text ≡ 5 → list_all is_ascii_digit text ≡ true → date_digits (digits_value 10 text) ≡ text
digits_again [] h g = cc
digits_again (a ∷ []) h g = cc
digits_again (a ∷ b ∷ []) h g = cc
digits_again (a ∷ b ∷ c ∷ []) h g = cc
digits_again (a ∷ b ∷ c ∷ d ∷ []) h g = cc
digits_again (a ∷ b ∷ c ∷ d ∷ e ∷ f ∷ rest) h g = absurd (omega arith)
digits_again (a ∷ b ∷ c ∷ d ∷ e ∷ []) h g =
    let pa = and_parts (is_ascii_digit a) (list_all is_ascii_digit (b ∷ c ∷ d ∷ e ∷ [])) g in
    let pb = and_parts (is_ascii_digit b) (list_all is_ascii_digit (c ∷ d ∷ e ∷ [])) pa.1 in
    let pc = and_parts (is_ascii_digit c) (list_all is_ascii_digit (d ∷ e ∷ [])) pb.1 in
    let pd = and_parts (is_ascii_digit d) (list_all is_ascii_digit (e ∷ [])) pc.1 in
    let pe = and_parts (is_ascii_digit e) true pd.1 in
    let fa = digit a pa.0 in
    let fb = digit b pb.0 in
    let fc = digit c pc.0 in
    let fd = digit d pd.0 in
    let fe = digit e pe.0 in
    let n : ℕ = digits_value 10 (a ∷ b ∷ c ∷ d ∷ e ∷ []) in
    let q = quotients n (a - 48) (b - 48) (c - 48) (d - 48) (e - 48)
    (omega (arith, fa.high)) (omega (arith, fb.high)) (omega (arith, fc.high)) (omega (arith, fd.high)) (omega (arith, fe.high))
    (written (digit_value a) (digit_value b) (digit_value c) (digit_value d) (digit_value e) (a - 48) (b - 48) (c - 48) (d - 48) (e - 48) fa.value fb.value fc.value fd.value fe.value) in
    let ea : 48 + n / 10000 ≡ a = back (n / 10000) a q.0 fa.low in
    let eb : 48 + n / 1000 % 10 ≡ b = back (n / 1000 % 10) b q.1 fb.low in
    let ec : 48 + n / 100 % 10 ≡ c = back (n / 100 % 10) c q.2 fc.low in
    let ed : 48 + n / 10 % 10 ≡ d = back (n / 10 % 10) d q.3 fd.low in
    let ee : 48 + n % 10 ≡ e = back (n % 10) e q.4 fe.low in
    λ i. ea i ∷ eb i ∷ ec i ∷ ed i ∷ ee i ∷ []
