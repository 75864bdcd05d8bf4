-- Whether the first value of a list is the only one.
use Rattle.std.proofs.Common.{◌≡◌, ℕ, Bool, true, false, List, [], ◌∷◌, ◌++◌, Some, None, option_map, Ok, Err, refl, sym, ap, append-nil}
use Rattle.std.specs.Bool.{then_some}
use Rattle.std.specs.Borrow.{Bor}
use Rattle.mcs_reader.specs.StatementText.{sole}
use Rattle.mcs_reader.specs.Scan.{Outcome, on_found, with_list, with_values}

abbrev pub is_nil : List (List ℕ) → Bool
is_nil [] = true
is_nil (value ∷ values) = false

pub not_nil : (others : List (List ℕ)) (value : List ℕ) → false ≡ is_nil (others ++ value ∷ [])
not_nil [] value = refl
not_nil (other ∷ others) value = refl

-- the values so far and the list's end make the list
pub on_found-list : (values : List (List ℕ)) (r : Outcome) → on_found (with_values values) (on_found (with_list []) r) ≡ on_found (with_list values) r
on_found-list values (Ok found) = ap (λ vs. Ok (record { values = Some vs; operands = found.operands; rest = found.rest })) (append-nil values)
on_found-list values (Err fault) = refl

pub alone : (first : List ℕ) (others : List (List ℕ)) → is_nil others ≡ true → Some first ≡ sole (first ∷ others)
alone first [] h = refl
alone first (other ∷ others) h = absurd (cc)

pub not_alone : (first : List ℕ) (others : List (List ℕ)) → is_nil others ≡ false → None ≡ sole (first ∷ others)
not_alone first [] h = absurd (cc)
not_alone first (other ∷ others) h = refl

-- what a test leaves of the first value
pub sole_first : (test : Bool) (first : Bor (List ℕ)) (others : List (List ℕ)) → test ≡ is_nil others → option_map {T = Bor (List ℕ)} {U = List ℕ} (λ v. v.now) (then_some test first) ≡ sole (first.now ∷ others)
sole_first true first others h = alone first.now others (sym h)
sole_first false first others h = not_alone first.now others (sym h)
