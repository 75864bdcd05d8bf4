-- What tests and filters say of lists.
use Rattle.std.proofs.Common.{◌≡◌, ℕ, zero, suc, ◌+◌, ◌<◌, ◌≤◌, Bool, true, false, cond, List, [], ◌∷◌, refl, sym, ap, subst, inl, inr, arith}
use Rattle.std.specs.List.{Contains, filter, range_with_len}
use Rattle.std.proofs.lemmas.Bool.{cases_eq}
use Rattle.lemmas.proofs.ListFacts.{first_inside, inside_cases, rest_inside}
use Rattle.install_order.proofs.ReadFacts.{none_in}

-- what a filter keeps of what another one kept, where both tests together are a third
pub filter_twice : {A : Type 0} (p q r : A → Bool) (xs : List A) → ((x : A) → Contains xs x → q x ≡ true → p x ≡ r x) → ((x : A) → q x ≡ false → r x ≡ false) → filter p (filter q xs) ≡ filter r xs
filter_twice p q r [] on off = refl
filter_twice {A} p q r (x ∷ xs) on off = go (filter_twice p q r xs (λ y inside. on y (rest_inside x y xs inside)) off) (q x) (p x) (r x) refl refl refl where
  go : filter p (filter q xs) ≡ filter r xs → (b c d : Bool) → q x ≡ b → p x ≡ c → r x ≡ d → filter p (cond b (x ∷ filter q xs) (filter q xs)) ≡ cond d (x ∷ filter r xs) (filter r xs)
  go same true true true e f g = rw f (ap (λ l. x ∷ l) same)
  go same true false false e f g = rw f same
  go same true true false e f g = absurd (let h : p x ≡ r x = on x (first_inside x xs) e in cc)
  go same true false true e f g = absurd (let h : p x ≡ r x = on x (first_inside x xs) e in cc)
  go same false c false e f g = same
  go same false c true e f g = absurd (let h : r x ≡ false = off x e in cc)

-- a number of a range
pub in_range : (a n p : ℕ) → Contains (range_with_len a n) p → (a ≤ p) × (p < a + n)
in_range a zero p inside = none_in p inside
in_range a (suc n) p inside = elim (inside_cases a p (range_with_len (a + 1) n) inside) [
  | inl same ↦ (omega arith, omega arith)
  | inr later ↦ (let further = in_range (a + 1) n p later in (omega (arith, further.0), omega (arith, further.1)))
]

pub range_has : (a n p : ℕ) → a ≤ p → p < a + n → Contains (range_with_len a n) p
range_has a zero p low high = absurd (omega arith)
range_has a (suc n) p low high = elim (cases_eq p a) [
  | inl e ↦ (let P : ℕ → Type 0 = λ k. Contains (a ∷ range_with_len (a + 1) n) k in subst P (sym e) (first_inside a (range_with_len (a + 1) n)))
  | inr ne ↦ rest_inside a p (range_with_len (a + 1) n) (range_has (a + 1) n p (omega arith) (omega arith))
]
