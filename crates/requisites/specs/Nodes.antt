-- Ids by their indices in a list, and the world that they make.
use Rattle.std.specs.Prelude.{◌≡◌, ◌<◌, ◌≤◌, ℕ, List, [], Bool, true, false, length, Contains, slice_index_or}
use Rattle.requisites.specs.Leads.{Leads}
use Rattle.requisites.specs.World.{World}
use Rattle.requisites.specs.declared.nodes.Nodes.{Nodes}

-- the nodes that are listed for a node
abbrev pub row : List (List ℕ) → ℕ → List ℕ
row lists p = slice_index_or lists p []

-- whether a node is marked
abbrev pub mark_of : List Bool → ℕ → Bool
mark_of marks p = slice_index_or marks p false

pub record IsMarked (marks : List Bool) (p : ℕ) : Type 0 where
  pub is : mark_of marks p ≡ true

-- q is listed for p, and is one of the n nodes
pub record Links (lists : List (List ℕ)) (n p q : ℕ) : Type 0 where
  pub listed : Contains (row lists p) q
  pub index : q < n

-- the rows have, for each of n nodes, those that link to it, and no others
pub record AreReversed (lists : List (List ℕ)) (n : ℕ) (reversed : List (List ℕ)) : Type 0 where
  pub turned : (p q : ℕ) → Links lists n p q → Contains (row reversed q) p
  pub only : (p q : ℕ) → Contains (row reversed q) p → Links lists n p q

-- the nodes as a world: a node gives those to which a list of superseded nodes leads
abbrev pub world : Nodes → World ℕ
world nodes = record {
  Candidate = λ p. IsMarked nodes.candidates.items p;
  Needs = λ p r. Contains (row nodes.needs p) r;
  There = λ r. IsMarked nodes.there.items r;
  Gives = λ p r. Leads (Links nodes.supersedes (length nodes.candidates.items)) p r;
  AtMost = λ p q. p ≤ q;
}
