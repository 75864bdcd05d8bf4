use Rattle.std.proofs.Common.{◌≡◌, ◌<◌, ℕ, List, Bool, length}
use Rattle.requisites.specs.Sources.{AreLeastSources, source_of}
use Rattle.zone_plans.specs.Climbs.{AreMirrored, IsOther, MarksMirrored}
use Rattle.zone_plans.proofs.others.others_of.Given as goal

abbrev pub invariant-loop-node : goal.invariant-loop-node
invariant-loop-node l = (length l.found.items ≡ l.node) × ((lists others : List (List ℕ)) (marks mirrored : List Bool) → length marks ≡ l.len
    → AreLeastSources lists marks l.least → AreLeastSources others mirrored l.turned → AreMirrored l.len lists others → MarksMirrored l.len marks mirrored
    → (p : ℕ) → p < l.node → IsOther lists l.len marks p (source_of l.found.items p))
