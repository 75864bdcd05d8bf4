-- The verdict on a node.
use Rattle.std.specs.Prelude.{ℕ}
use Rattle.std.specs.List.Sorted.{IsStrictlyIncreasing}
use Rattle.requisites.specs.World.{IsChosenPlan, IsHeldFor}
use Rattle.requisites.specs.Nodes.{IsMarked, world}
use Rattle.requisites.specs.declared.nodes.Nodes.{Nodes}
use Rattle.requisites.specs.declared.verdict.Verdict.{Verdict}
use Rattle.requisites.specs.declared.verdict.Verdict.TheVariants.{Good, Held, Lack}

-- good with the chosen plan, held with the blocked need, or no candidate
abbrev pub IsVerdict : Nodes → ℕ → Verdict → Type 0
IsVerdict nodes x (Good plan) = IsChosenPlan (world nodes) x plan.items × IsStrictlyIncreasing plan.items
IsVerdict nodes x (Held need) = IsHeldFor (world nodes) x need
IsVerdict nodes x Lack = IsMarked nodes.candidates.items x → ⊥
