-- No part of what is promised: private contracts cite it. A verdict on a node, as one on the id at its index.
use Rattle.std.specs.Prelude.{◌<◌, ℕ, List, Contains, length, map}
use Rattle.requisites.specs.declared.verdict.Verdict.{Verdict}
use Rattle.requisites.specs.declared.verdict.Verdict.TheVariants.{Good, Held, Lack}
use Rattle.verdicts.specs.Indices.{id_at}
use Rattle.verdicts.specs.Verdicts.{Judged, good, held, lack}

-- a verdict on a node names indices of members alone
abbrev pub IsWithin : List (List ℕ) → Verdict → Type 0
IsWithin members (Good plan) = (q : ℕ) → Contains plan.items q → q < length members
IsWithin members (Held need) = need < length members
IsWithin members Lack = Unit {0}

-- the same verdict on the id at the index
abbrev pub verdict_at : List (List ℕ) → Verdict → Judged
verdict_at members (Good plan) = good (map (id_at members) plan.items)
verdict_at members (Held need) = held (id_at members need)
verdict_at members Lack = lack
