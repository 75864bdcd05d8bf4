-- A list of an enum's variants, in the order in which they are declared, leaves none out.
use Rattle.std.proofs.Common.{◌≡◌, ◌<◌, ◌+◌, ◌∙◌, ℕ, zero, suc, inl, inr, List, [], ◌∷◌, length, arith, sym, subst}
use Rattle.std.specs.Prelude.{map}
use Rattle.std.specs.List.{AllByRecursion, range_with_len}
use denote.Enum.Bare.{Bare, tag_one}
use denote.Enum.Declared.{Declared, rowss, tag_of}
use denote.Enum.Enum.{Sum, tag}
use denote.RattleType.{RattleType}

-- a variant's number is below how many there are
below : (variants : List (List RattleType)) (value : Sum variants) → tag variants value < length variants
below [] value = absurd value
below (fields ∷ variants) (inl value) = omega arith
below (fields ∷ variants) (inr value) = let before = below variants value in omega (arith, before)

module _ (D : Declared) (bare : Bare D.parts) (P : D.D → Type 0) (value : D.D) where
  -- what holds of all of a list holds of the value with the number that stands so far on
  there : (first steps : ℕ) (values : List D.D) → map (tag_of D) values ≡ range_with_len first (length values) → AllByRecursion P values → steps < length values → tag_of D value ≡ first + steps → P value
  there first steps [] numbers all within is = absurd (omega (arith, within))
  there first zero (one ∷ values) numbers all within is =
      let number : tag_of D one ≡ first = cc in
      let place : tag_of D value ≡ first = omega (arith, is) in subst P (tag_one D bare one value (number ∙ sym place)) all.0
  there first (suc steps) (one ∷ values) numbers all within is =
      let others : map (tag_of D) values ≡ range_with_len (first + 1) (length values) = cc in
      there (first + 1) steps values others all.1 (omega (arith, within)) (omega (arith, is))

  pub every : (values : List D.D) → map (tag_of D) values ≡ range_with_len 0 (length (rowss D.parts)) → length values ≡ length (rowss D.parts) → AllByRecursion P values → P value
  every values numbers many all =
      let within = below (rowss D.parts) (D.to value) in
      there 0 (tag_of D value) values (subst (λ n. map (tag_of D) values ≡ range_with_len 0 n) (sym many) numbers) all (subst (λ n. tag_of D value < n) (sym many) within) (omega arith)
