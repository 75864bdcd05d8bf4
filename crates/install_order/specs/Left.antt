-- The members of a plan that are left when each one that another gives is left out (IBM z/OS SMP/E Reference, `++VER`,
-- operand SUP).
use Rattle.std.specs.Prelude.{◌≡◌, ◌<◌, ◌==◌, ◌&&◌, ◌||◌, ℕ, List, Bool, false, not, length, map, nat_lt, Contains}
use Rattle.std.specs.List.{list_any, range_with_len}
use Rattle.requisites.specs.Leads.{Leads}
use Rattle.requisites.specs.Nodes.{IsMarked, Links, mark_of, row}

-- Whether a node q that gives p outdoes it, by the rows of givers: it is another one, and if p gives it too, it is the
-- greater.
abbrev pub outdoes : List (List ℕ) → ℕ → ℕ → Bool
outdoes givers p q = not (q == p) && (nat_lt p q || not (list_any (λ r. r == p) (row givers q)))

-- whether one of those that give p outdoes it
abbrev pub is_outdone : List (List ℕ) → ℕ → Bool
is_outdone givers p = list_any (outdoes givers p) (row givers p)

-- the marks of those of n nodes that no other one outdoes
abbrev pub left_in : List (List ℕ) → ℕ → List Bool
left_in givers n = map (λ p. not (is_outdone givers p)) (range_with_len 0 n)

-- ---- what is so of these marks

-- the rows name nodes only, and a node that gives another gives all that the other gives
pub record AreGivers (givers : List (List ℕ)) (n : ℕ) : Type 0 where
  pub within : (p q : ℕ) → Contains (row givers p) q → q < n
  pub on : (p q r : ℕ) → Contains (row givers p) q → Contains (row givers q) r → Contains (row givers p) r

-- one of n nodes, other than p, that gives p
pub record IsGiven (givers : List (List ℕ)) (n p : ℕ) : Type 0 where
  pub by : ℕ
  pub is_other : ¬ (by ≡ p)
  pub gives : Links givers n p by

-- a node that is left and is p, or gives p
pub record HasStandIn (givers : List (List ℕ)) (n : ℕ) (left : List Bool) (p : ℕ) : Type 0 where
  pub stand_in : ℕ
  pub marked : IsMarked left stand_in
  pub leads : Leads (Links givers n) p stand_in

-- Each node that is left out is given by another one. No node that is left gives another one that is. For each node one that
-- is left stands in.
pub record AreLeft (givers : List (List ℕ)) (n : ℕ) (left : List Bool) : Type 0 where
  pub len : length left ≡ n
  pub left_out : (p : ℕ) → p < n → mark_of left p ≡ false → IsGiven givers n p
  pub alone : (p q : ℕ) → IsMarked left p → IsMarked left q → Contains (row givers p) q → q ≡ p
  pub stands_in : (p : ℕ) → p < n → HasStandIn givers n left p
