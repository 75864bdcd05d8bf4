use Rattle.std.proofs.Common.{◌≡◌, List, ℕ, Bool, is_some, take}
use Rattle.std.specs.Prelude.{not}
use Rattle.std.specs.List.{Contains, filter}
use Rattle.requisites.specs.Sources.{source_of}
use Rattle.verdicts.specs.Indices.{IsAt}
use Rattle.zone_plans.proofs.tops.those_not_given.Given as goal

abbrev pub invariant-loop-id : goal.invariant-loop-id
invariant-loop-id l = (f : List ℕ → Bool) → ((id : List ℕ) → Contains l.ids id → Contains l.members id)
    → ((id : List ℕ) (p : ℕ) → Contains l.ids id → IsAt l.members id p → is_some (source_of l.found p) ≡ f id) → l.kept.items ≡ filter (λ id. not (f id)) (take l.id-index l.ids)
