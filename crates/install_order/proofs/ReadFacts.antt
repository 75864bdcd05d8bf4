-- What is so of the part of a list that was read.
use Rattle.std.proofs.Common.{◌≡◌, ℕ, ◌+◌, ◌<◌, ◌≤◌, max, List, [], ◌∷◌, ◌++◌, Bool, true, false, length, get_or, take, drop, sym, ◌∙◌, ap, subst, inl, inr, arith}
use Rattle.std.specs.Prelude.{◌⊎◌}
use Rattle.std.specs.Bool.{OnTrue}
use Rattle.std.specs.List.{Contains}
use Rattle.std.proofs.Math.Nat.{max-eq_left, max-eq_right}
use Rattle.std.proofs.lemmas.Bool.{cases_lt}
use Rattle.std.proofs.lemmas.List.{append-nil, drop_all, take_all, take_more}
use Rattle.std.proofs.lemmas.List.Elements.{Contains-get_or, Contains-push_cases}

-- what is true of those read so far is true of one more
pub one_more : (P : ℕ → Type 0) (row : List ℕ) (i : ℕ) → i < length row → ((q : ℕ) → Contains (take i row) q → P q) → P (get_or row i 0) → (q : ℕ) → Contains (take (i + 1) row) q → P q
one_more P row i inside before here q listed =
    let Q : List ℕ → Type 0 = λ l. Contains l q in
    elim (Contains-push_cases (take i row) (get_or row i 0) q (subst Q (take_more row i 0 inside) listed)) [
      | inl was ↦ before q was
      | inr same ↦ subst P same here
    ]

pub all_read : (P : ℕ → Type 0) (row : List ℕ) (i : ℕ) → length row ≡ i → ((q : ℕ) → Contains (take i row) q → P q) → (q : ℕ) → Contains row q → P q
all_read P row i end before q listed =
    let Q : List ℕ → Type 0 = λ l. Contains l q in
    before q (subst Q (sym (take_all i row (omega arith))) listed)

-- what is true of what was read and one more
pub read_more : {X : Type 0} (P : List X → Type 0) (row : List X) (i : ℕ) (d : X) → i < length row → P (take i row ++ get_or row i d ∷ []) → P (take (i + 1) row)
read_more P row i d inside here = subst P (sym (take_more row i d inside)) here

pub read_whole : {X : Type 0} (P : List X → Type 0) (row : List X) (i : ℕ) → i ≡ length row → P (take i row) → P row
read_whole P row i end here = subst P (take_all i row (omega arith)) here

-- one in a list of one
pub in_one : {X : Type 0} (x y : X) → Contains (x ∷ []) y → x ≡ y
in_one x y member = elim (Contains-push_cases [] x y member) [
  | inl before ↦ absurd (omega (arith, before.1))
  | inr same ↦ same
]

pub none_in : {X : Type 0} {P : Type 0} (x : X) → Contains [] x → P
none_in x member = absurd (omega (arith, member.1))

pub max_is : (a b : ℕ) → ((max a b ≡ a) × (b ≤ a)) ⊎ ((max a b ≡ b) × (a ≤ b))
max_is a b = elim (cases_lt a b) [
  | inl less ↦ inr (max-eq_right (omega arith), omega arith)
  | inr more ↦ inl (max-eq_left (omega arith), omega arith)
]

-- what was drawn from a list, and one more of it
pub drawn_more : (row own own' : List ℕ) (i : ℕ) → i < length row → own' ≡ own ++ get_or row i 0 ∷ [] → ((q : ℕ) → Contains own q → Contains row q) → (q : ℕ) → Contains own' q → Contains row q
drawn_more row own own' i inside now was q listed =
    let P : List ℕ → Type 0 = λ l. Contains l q in
    elim (Contains-push_cases own (get_or row i 0) q (subst P now listed)) [
      | inl before ↦ was q before
      | inr same ↦ (let Q : ℕ → Type 0 = λ k. Contains row k in subst Q same (Contains-get_or row i 0 inside))
    ]

pub drawn_same : (row own own' : List ℕ) → own' ≡ own → ((q : ℕ) → Contains own q → Contains row q) → (q : ℕ) → Contains own' q → Contains row q
drawn_same row own own' same was q listed = let P : List ℕ → Type 0 = λ l. Contains l q in was q (subst P same listed)

-- a test that holds tells more
pub true_then : {P Q : Type 0} (b : Bool) → OnTrue b P → (P → Q) → OnTrue b Q
true_then true holds then = then holds
true_then false holds then = tt

-- a slice that was written whole
pub written : {X : Type 0} (new items : List X) (n : ℕ) → length new ≡ length items → n ≡ length items → take n (new ++ drop (length new) items) ≡ new
written {X} new items n same len =
    let none : drop (length new) items ≡ [] = drop_all (length new) items (omega arith) in
    let P : List X → Type 0 = λ l. take n (new ++ l) ≡ new in
    let nil : new ++ [] ≡ new = append-nil new in
    subst P (sym none) (ap (λ l. take n l) nil ∙ take_all n new (omega arith))
