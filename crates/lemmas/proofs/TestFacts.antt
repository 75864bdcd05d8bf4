-- Tests, and orders that are tested.
use Rattle.std.proofs.Common.{◌≡◌, ◌⊎◌, ◌||◌, ◌==◌, ◌<◌, ◌≤◌, ℕ, Bool, true, false, cond, inl, inr, nat_le, nat_lt, refl, sym, arith}
use Rattle.std.specs.Ordering.{is_eq, ordering_index}
use Rattle.std.specs.declared.cmp.Ordering.{Ordering}
use Rattle.std.specs.declared.cmp.Ordering.TheVariants.{Less, Equal, Greater}
use Rattle.std.proofs.lemmas.Bool.Decides.{nat_tests}

-- two tests that pass together are one
pub same_test : (a b : Bool) → (a ≡ true → b ≡ true) → (b ≡ true → a ≡ true) → a ≡ b
same_test true b there back = sym (there refl)
same_test false true there back = back refl
same_test false false there back = refl

pub equal_is : (o : Ordering) → is_eq o ≡ true → o ≡ Equal
equal_is Less h = absurd (cc h)
equal_is Equal h = refl
equal_is Greater h = absurd (cc h)

pub most_index : (o : Ordering) → ordering_index o ≤ 2
most_index Less = omega arith
most_index Equal = omega arith
most_index Greater = omega arith

-- ---- one or the other

pub or_false : (b : Bool) → b ≡ (b || false)
or_false true = refl
or_false false = refl

pub or_true : (b : Bool) → (b || true) ≡ true
or_true true = refl
or_true false = refl

pub or_swap : (a b c : Bool) → (a || (b || c)) ≡ (b || (a || c))
or_swap true true c = refl
or_swap true false c = refl
or_swap false b c = refl

pub never : (b : Bool) → cond b false false ≡ false
never true = refl
never false = refl

-- ---- tests of numbers

pub low_itself : (n : ℕ) → n ≤ n
low_itself n = omega arith

pub same_number : (a b : ℕ) → (a == b) ≡ true → a ≡ b
same_number a b h = grind (arith, nat_tests)

pub less_number : (a b : ℕ) → nat_lt a b ≡ true → a < b
less_number a b h = grind (arith, nat_tests)

pub either_order : (t : Bool) (a b : ℕ) → nat_le a b ≡ t → (a ≤ b) ⊎ (b ≤ a)
either_order true a b h = inl (grind (arith, nat_tests))
either_order false a b h = inr (grind (arith, nat_tests))
