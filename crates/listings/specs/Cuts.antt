-- A part of the content by index. If the part is closed, the plans,
-- picks and verdicts found over its indices are those of the whole content.
use Rattle.std.specs.Prelude.{◌<◌, ◌↔◌, ℕ, List, length}
use Rattle.requisites.specs.World.{World}
use Rattle.verdicts.specs.Indices.{IndexOf, id_at}

-- an index of a need of p
pub record NeedIndex (members : List (List ℕ)) (V : World ℕ) (p : ℕ) (need : List ℕ) : Type 0 where
  pub at : IndexOf members need
  pub needs : V.Needs p at.index

-- V speaks of the indices of some ids as W speaks of the ids themselves: of each candidate it has all needs, and
-- of each index all candidates that give it
pub record IsCut (W : World (List ℕ)) (members : List (List ℕ)) (V : World ℕ) : Type 0 where
  pub within : (p : ℕ) → V.Candidate p → p < length members
  pub candidates : (p : ℕ) → p < length members → V.Candidate p ↔ W.Candidate (id_at members p)
  pub needs_within : (p q : ℕ) → V.Candidate p → V.Needs p q → q < length members
  pub needs : (p q : ℕ) → V.Candidate p → V.Needs p q → W.Needs (id_at members p) (id_at members q)
  pub all_needs : (p : ℕ) (need : List ℕ) → V.Candidate p → W.Needs (id_at members p) need → NeedIndex members V p need
  pub there : (q : ℕ) → q < length members → V.There q ↔ W.There (id_at members q)
  pub gives : (p q : ℕ) → V.Candidate p → q < length members → V.Gives p q ↔ W.Gives (id_at members p) (id_at members q)
  pub givers : (giver : List ℕ) (q : ℕ) → q < length members → W.Candidate giver → W.Gives giver (id_at members q) → IndexOf members giver
  pub order : (p q : ℕ) → p < length members → q < length members → V.AtMost p q ↔ W.AtMost (id_at members p) (id_at members q)
