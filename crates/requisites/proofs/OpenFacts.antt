-- Needs that are met, and the least that isn't.
use Rattle.std.proofs.Common.{◌≡◌, ℕ, ◌+◌, ◌<◌, ◌≤◌, ◌⊎◌, List, [], ◌∷◌, ◌++◌, true, false, Option, Some, None, length, get_or, min, take, refl, sym, subst, inl, inr, arith}
use Rattle.std.specs.Option.{option_map_or}
use Rattle.std.proofs.lemmas.Bool.{cases_lt}
use Rattle.std.proofs.lemmas.List.{take_more}
use Rattle.std.proofs.lemmas.List.Elements.{Contains-append_left, Contains-push, Contains-push_cases}
use Rattle.requisites.specs.Nodes.{IsMarked, mark_of}
use Rattle.requisites.specs.Sources.{HasSource, source_of}
use Rattle.requisites.specs.Good.{AreMet, IsLeastOpen, IsOpenNeed}
use Rattle.requisites.specs.declared.nodes.Nodes.{Nodes}
use Rattle.requisites.proofs.SpreadFacts.{none≢some}

-- the least open need of those read so far
pub record IsLeastSoFar (nodes : Nodes) (givers : List (Option ℕ)) (needs : List ℕ) (least : Option ℕ) : Type 0 where
  pub some : (r : ℕ) → least ≡ Some r → IsLeastOpen nodes givers needs r
  pub none : least ≡ None → AreMet nodes givers needs

pub least_begins : (nodes : Nodes) (givers : List (Option ℕ)) → IsLeastSoFar nodes givers [] None
least_begins nodes givers = record {
  some = λ r e. absurd (cc);
  none = λ e. record { met = λ r inside. absurd (omega (arith, inside.1)) };
}

-- an open need is not met
open_not_met : (nodes : Nodes) (givers : List (Option ℕ)) (needs : List ℕ) (r : ℕ) → IsOpenNeed nodes givers needs r → IsMarked nodes.there.items r ⊎ HasSource givers r → ⊥
open_not_met nodes givers needs r is_open (inl marked) = let on : mark_of nodes.there.items r ≡ true = marked.is in let off : mark_of nodes.there.items r ≡ false = is_open.absent in cc
open_not_met nodes givers needs r is_open (inr had) = none≢some (source_of givers r) had.source is_open.ungiven had.is

same_in : (P : ℕ → Type 0) (a b : ℕ) → a ≡ b → P a → P b
same_in P a b e h = subst P e h

-- one more need, which is met
pub least_skips : (nodes : Nodes) (givers : List (Option ℕ)) (needs : List ℕ) (least : Option ℕ) (r : ℕ) → IsLeastSoFar nodes givers needs least → IsMarked nodes.there.items r ⊎ HasSource givers r → IsLeastSoFar nodes givers (needs ++ r ∷ []) least
least_skips nodes givers needs least r a met = record {
  some = λ q e. let was = a.some q e in record {
    is_open = record { needs = Contains-append_left needs (r ∷ []) q was.is_open.needs; absent = was.is_open.absent; ungiven = was.is_open.ungiven };
    least = λ s other. elim (Contains-push_cases needs r s other.needs) [
      | inl inside ↦ was.least s (record { needs = inside; absent = other.absent; ungiven = other.ungiven })
      | inr same ↦ absurd (open_not_met nodes givers (needs ++ r ∷ []) s other (same_in (λ (k : ℕ). IsMarked nodes.there.items k ⊎ HasSource givers k) r s same met))
    ];
  };
  none = λ e. record {
    met = λ q inside. elim (Contains-push_cases needs r q inside) [
      | inl before ↦ (a.none e).met q before
      | inr same ↦ same_in (λ (k : ℕ). IsMarked nodes.there.items k ⊎ HasSource givers k) r q same met
    ];
  };
}

-- one more need, which is open
pub least_takes : (nodes : Nodes) (givers : List (Option ℕ)) (needs : List ℕ) (least : Option ℕ) (r : ℕ) → IsLeastSoFar nodes givers needs least → IsOpenNeed nodes givers (r ∷ []) r → IsLeastSoFar nodes givers (needs ++ r ∷ []) (Some (option_map_or (λ o. min o r) least r))
least_takes nodes givers needs None r a is_open = record {
  some = λ q e. let same : r ≡ q = (cc) in same_in (λ (k : ℕ). IsLeastOpen nodes givers (needs ++ r ∷ []) k) r q same (record {
    is_open = record { needs = Contains-push needs r; absent = is_open.absent; ungiven = is_open.ungiven };
    least = λ s other. elim (Contains-push_cases needs r s other.needs) [
      | inl inside ↦ absurd (open_not_met nodes givers (needs ++ r ∷ []) s other ((a.none refl).met s inside))
      | inr equal ↦ omega arith
    ];
  });
  none = λ e. absurd (cc);
}
least_takes nodes givers needs (Some o) r a is_open = record {
  some = λ q e. let same : min o r ≡ q = (cc) in same_in (λ (k : ℕ). IsLeastOpen nodes givers (needs ++ r ∷ []) k) (min o r) q same (record {
    is_open = chosen;
    least = λ s other. elim (Contains-push_cases needs r s other.needs) [
      | inl inside ↦ (let below : o ≤ s = (a.some o refl).least s (record { needs = inside; absent = other.absent; ungiven = other.ungiven }) in omega arith)
      | inr equal ↦ omega arith
    ];
  });
  none = λ e. absurd (cc);
} where
  either : (min o r ≡ o) ⊎ (min o r ≡ r)
  either = elim (cases_lt o r) [ inl h ↦ inl (omega arith) | inr h ↦ inr (omega arith) ]

  chosen : IsOpenNeed nodes givers (needs ++ r ∷ []) (min o r)
  chosen = elim either [
    | inl first ↦ (let was = (a.some o refl).is_open in same_in (λ (k : ℕ). IsOpenNeed nodes givers (needs ++ r ∷ []) k) o (min o r) (sym first) (record { needs = Contains-append_left needs (r ∷ []) o was.needs; absent = was.absent; ungiven = was.ungiven }))
    | inr second ↦ same_in (λ (k : ℕ). IsOpenNeed nodes givers (needs ++ r ∷ []) k) r (min o r) (sym second) (record { needs = Contains-push needs r; absent = is_open.absent; ungiven = is_open.ungiven })
  ]

-- the list read so far, one longer, for what a branch left
pub least_step : (nodes : Nodes) (givers : List (Option ℕ)) (needs : List ℕ) (i : ℕ) (least : Option ℕ) → i < length needs → IsLeastSoFar nodes givers (take i needs ++ get_or needs i 0 ∷ []) least → IsLeastSoFar nodes givers (take (i + 1) needs) least
least_step nodes givers needs i least inside a = rw (take_more needs i 0 inside) a
