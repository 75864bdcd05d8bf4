-- What is handed to a change is fit to be written.
use Rattle.std.proofs.Common.{◌≡◌, ℕ, ◌≤◌, ◌&&◌, Bool, IsTrue, List, [], ◌∷◌, false, true, inl, inr, length, refl, subst, take}
use Rattle.std.specs.List.{AllByRecursion, list_all}
use Rattle.std.specs.Str.{bytes_eq}
use Rattle.std.proofs.lemmas.Bool.{cases_Bool}
use Rattle.std.proofs.lemmas.List.{take_all}
use Rattle.std.proofs.lemmas.Slice.Eq.{bytes_eq-Decides}
use Rattle.mcs_reader.specs.Id.{IsId}
use Rattle.bureau_store.specs.Caller.{IsProper, publisher_name}
use Rattle.bureau_store.specs.declared.caller.Caller.TheVariants.{Client}
use Rattle.zone_lists.specs.Pattern.{is_pattern}
use Rattle.sql_tables.specs.Fit.{IsNamed}
pub use Rattle.lemmas.proofs.ListFacts.{all_so as of_each}
pub use Rattle.sql_writes.proofs.BoundFacts.{all_more as all_so_far}

pub all_seen : {X : Type 0} (P : X → Type 0) (xs : List X) (i : ℕ) → length xs ≤ i → AllByRecursion P (take i xs) → AllByRecursion P xs
all_seen P xs i past all = subst (AllByRecursion P) (take_all i xs past) all

pub all_patterns : (patterns : List (List ℕ)) → AllByRecursion (λ pattern. IsTrue (is_pattern pattern)) patterns → list_all is_pattern patterns ≡ true
all_patterns [] all = refl
all_patterns (pattern ∷ patterns) all = both (is_pattern pattern) (list_all is_pattern patterns) all.0 (all_patterns patterns all.1)
  where
    both : (a b : Bool) → IsTrue a → b ≡ true → (a && b) ≡ true
    both true true one more = refl
    both true false one more = more
    both false b one more = absurd cc

-- a client has a name of its own
pub client_named : (name : List ℕ) → IsId name → IsProper (Client name) → IsNamed (Client name)
client_named name is proper = (
  is,
  elim (cases_Bool (bytes_eq name publisher_name)) [
    | inl same ↦ absurd (proper ((bytes_eq-Decides name publisher_name).0 same))
    | inr other ↦ other
  ],
)
