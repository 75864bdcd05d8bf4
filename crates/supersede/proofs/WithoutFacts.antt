-- A list of ids without one of them.
use Rattle.std.proofs.Common.{◌≡◌, ◌≤◌, ◌<◌, ◌∙◌, true, false, not, ℕ, List, [], ◌∷◌, length, filter, inl, inr, ap, arith}
use Rattle.std.specs.Str.{bytes_eq}
use Rattle.std.proofs.lemmas.Bool.{cases_Bool}
use Rattle.std.proofs.lemmas.Slice.Eq.{bytes_eq-Decides}
use Rattle.supersede.proofs.GivingFacts.{In}

-- the ids but one
abbrev pub without : List ℕ → List (List ℕ) → List (List ℕ)
without x ids = filter (λ id. not (bytes_eq id x)) ids

pub in_without : (x : List ℕ) (ids : List (List ℕ)) (s : List ℕ) → In ids s → bytes_eq s x ≡ false → In (without x ids) s
in_without x [] s none apart = absurd none
in_without x (y ∷ ys) s (inl same) apart = let other : bytes_eq y x ≡ false = ap (λ id. bytes_eq id x) same ∙ apart in rw other (inl same)
in_without x (y ∷ ys) s (inr later) apart =
    elim (cases_Bool (bytes_eq y x)) [
      | inl this ↦ rw this (in_without x ys s later apart)
      | inr other ↦ rw other (inr (in_without x ys s later apart))
    ]

at_most : (x : List ℕ) (ids : List (List ℕ)) → length (without x ids) ≤ length ids
at_most x [] = omega arith
at_most x (y ∷ ys) =
    let rest = at_most x ys in
    elim (cases_Bool (bytes_eq y x)) [ inl this ↦ rw this (omega (arith, rest)) | inr other ↦ rw other (omega (arith, rest)) ]

pub fewer : (x : List ℕ) (ids : List (List ℕ)) → In ids x → length (without x ids) < length ids
fewer x [] none = absurd none
fewer x (y ∷ ys) (inl same) =
    let this : bytes_eq y x ≡ true = (bytes_eq-Decides y x).1 same in
    let rest = at_most x ys in
    rw this (omega (arith, rest))
fewer x (y ∷ ys) (inr later) =
    let rest = fewer x ys later in
    elim (cases_Bool (bytes_eq y x)) [ inl this ↦ rw this (omega (arith, rest)) | inr other ↦ rw other (omega (arith, rest)) ]
