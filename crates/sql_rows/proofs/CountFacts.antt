-- What is so of short lists, whatever they have, is shown for each length.
use Rattle.std.proofs.Common.{◌≡◌, ◌≤◌, ◌⊎◌, ◌+◌, ◌*◌, ℕ, inl, inr, List, [], ◌∷◌, true, length, subst, sym, arith}
use Rattle.std.specs.Prelude.{nat_le}
use Rattle.std.proofs.Math.Nat.{mul-le-mul_left}
use Rattle.std.proofs.lemmas.Bool.Decides.{nat_tests}

module _ {X : Type 0} (P : List X → Type 0) where
  pub one_only : ((a : X) → P (a ∷ [])) → (xs : List X) → length xs ≡ 1 → P xs
  one_only one [] is = absurd (omega (arith, is))
  one_only one (a ∷ []) is = one a
  one_only one (a ∷ b ∷ more) is = absurd (omega (arith, is))

  pub up_to_eight : P [] → ((a : X) → P (a ∷ [])) → ((a b : X) → P (a ∷ b ∷ [])) → ((a b c : X) → P (a ∷ b ∷ c ∷ [])) → ((a b c d : X) → P (a ∷ b ∷ c ∷ d ∷ []))
      → ((a b c d e : X) → P (a ∷ b ∷ c ∷ d ∷ e ∷ [])) → ((a b c d e f : X) → P (a ∷ b ∷ c ∷ d ∷ e ∷ f ∷ [])) → ((a b c d e f g : X) → P (a ∷ b ∷ c ∷ d ∷ e ∷ f ∷ g ∷ []))
      → ((a b c d e f g h : X) → P (a ∷ b ∷ c ∷ d ∷ e ∷ f ∷ g ∷ h ∷ [])) → (xs : List X) → length xs ≤ 8 → P xs
  up_to_eight p0 p1 p2 p3 p4 p5 p6 p7 p8 [] low = p0
  up_to_eight p0 p1 p2 p3 p4 p5 p6 p7 p8 (a ∷ []) low = p1 a
  up_to_eight p0 p1 p2 p3 p4 p5 p6 p7 p8 (a ∷ b ∷ []) low = p2 a b
  up_to_eight p0 p1 p2 p3 p4 p5 p6 p7 p8 (a ∷ b ∷ c ∷ []) low = p3 a b c
  up_to_eight p0 p1 p2 p3 p4 p5 p6 p7 p8 (a ∷ b ∷ c ∷ d ∷ []) low = p4 a b c d
  up_to_eight p0 p1 p2 p3 p4 p5 p6 p7 p8 (a ∷ b ∷ c ∷ d ∷ e ∷ []) low = p5 a b c d e
  up_to_eight p0 p1 p2 p3 p4 p5 p6 p7 p8 (a ∷ b ∷ c ∷ d ∷ e ∷ f ∷ []) low = p6 a b c d e f
  up_to_eight p0 p1 p2 p3 p4 p5 p6 p7 p8 (a ∷ b ∷ c ∷ d ∷ e ∷ f ∷ g ∷ []) low = p7 a b c d e f g
  up_to_eight p0 p1 p2 p3 p4 p5 p6 p7 p8 (a ∷ b ∷ c ∷ d ∷ e ∷ f ∷ g ∷ h ∷ []) low = p8 a b c d e f g h
  up_to_eight p0 p1 p2 p3 p4 p5 p6 p7 p8 (a ∷ b ∷ c ∷ d ∷ e ∷ f ∷ g ∷ h ∷ k ∷ more) low = absurd (omega (arith, low))

  pub one_or_eight : ((a : X) → P (a ∷ [])) → ((a b c d e f g h : X) → P (a ∷ b ∷ c ∷ d ∷ e ∷ f ∷ g ∷ h ∷ [])) → (xs : List X) → (length xs ≡ 1) ⊎ (length xs ≡ 8) → P xs
  one_or_eight one eight xs (inl is) = one_only one xs is
  one_or_eight one eight [] (inr is) = absurd (omega (arith, is))
  one_or_eight one eight (a ∷ []) (inr is) = absurd (omega (arith, is))
  one_or_eight one eight (a ∷ b ∷ []) (inr is) = absurd (omega (arith, is))
  one_or_eight one eight (a ∷ b ∷ c ∷ []) (inr is) = absurd (omega (arith, is))
  one_or_eight one eight (a ∷ b ∷ c ∷ d ∷ []) (inr is) = absurd (omega (arith, is))
  one_or_eight one eight (a ∷ b ∷ c ∷ d ∷ e ∷ []) (inr is) = absurd (omega (arith, is))
  one_or_eight one eight (a ∷ b ∷ c ∷ d ∷ e ∷ f ∷ []) (inr is) = absurd (omega (arith, is))
  one_or_eight one eight (a ∷ b ∷ c ∷ d ∷ e ∷ f ∷ g ∷ []) (inr is) = absurd (omega (arith, is))
  one_or_eight one eight (a ∷ b ∷ c ∷ d ∷ e ∷ f ∷ g ∷ h ∷ []) (inr is) = eight a b c d e f g h
  one_or_eight one eight (a ∷ b ∷ c ∷ d ∷ e ∷ f ∷ g ∷ h ∷ k ∷ more) (inr is) = absurd (omega (arith, is))

pub up_to_the_eighth : (count : ℕ) → (count ≡ 1) ⊎ (count ≡ 8) → count ≤ 8
up_to_the_eighth count (inl is) = omega (arith, is)
up_to_the_eighth count (inr is) = omega (arith, is)

-- how many parameters a key and so many things have, where the greatest number of things has few enough
pub room_of : (shared own count most : ℕ) → count ≤ most → nat_le (shared + own * most) 40 ≡ true → shared + own * count ≤ 40
room_of shared own count most low few =
    let fewer : own * count ≤ own * most = mul-le-mul_left own low in
    let all : shared + own * most ≤ 40 = grind (arith, nat_tests, few) in
    omega (arith, fewer, all)

pub room_of_one : (shared own count : ℕ) → count ≡ 1 → nat_le (shared + own) 40 ≡ true → shared + own * count ≤ 40
room_of_one shared own count is few =
    let all : shared + own ≤ 40 = grind (arith, nat_tests, few) in
    let one : own * 1 ≡ own = omega arith in
    subst (λ n. shared + own * n ≤ 40) (sym is) (omega (arith, one, all))
