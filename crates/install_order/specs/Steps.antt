-- The steps in which members are installed (IBM z/OS SMP/E Reference, `++VER`, operands PRE and REQ).
use Rattle.std.specs.Prelude.{◌≡◌, ◌++◌, ◌↔◌, ◌||◌, ℕ, zero, suc, Bool, true, not, List, [], ◌∷◌, filter, length, Contains}
use Rattle.std.specs.List.{list_all, range_with_len}
use Rattle.std.specs.List.Sorted.{IsStrictlyIncreasing}
use Rattle.requisites.specs.Leads.{Leads}
use Rattle.requisites.specs.Nodes.{IsMarked, Links, mark_of}

-- ---- the steps, by a test that says whether needs lead from one to another, directly or through others

module _ {A : Type 0} (leads : A → A → Bool) where
  -- whether one may come next of those that are left: each to which it leads among them leads back to it
  abbrev pub may_come : List A → A → Bool
  may_come left one = list_all (λ other. not (leads one other) || leads other one) left

  -- The steps in which those that are left are installed, at most so many. The first step has all that may come next; the
  -- later ones are those of the rest.
  abbrev pub steps_of : ℕ → List A → List (List A)
  steps_of zero left = []
  steps_of (suc most) [] = []
  steps_of (suc most) (first ∷ more) =
      filter (may_come (first ∷ more)) (first ∷ more)
      ∷ steps_of most (filter (λ one. not (may_come (first ∷ more) one)) (first ∷ more))

-- the marked nodes, ascending
abbrev pub marked_in : List Bool → List ℕ
marked_in marks = filter (mark_of marks) (range_with_len 0 (length marks))

-- a test says whether needs lead from one marked node to another
abbrev pub IsTestOf : List (List ℕ) → List Bool → (ℕ → ℕ → Bool) → Type 0
IsTestOf needs members leads =
    (p q : ℕ) → IsMarked members p → IsMarked members q → (leads p q ≡ true) ↔ Leads (Links needs (length members)) p q

-- the steps in which the marked nodes are installed: there are no more than nodes
abbrev pub AreSteps : List (List ℕ) → List Bool → List (List ℕ) → Type 0
AreSteps needs members steps =
    (leads : ℕ → ℕ → Bool) → IsTestOf needs members leads → steps ≡ steps_of leads (length members) (marked_in members)

-- each need of a marked node is marked too
abbrev pub IsClosed : List (List ℕ) → List Bool → Type 0
IsClosed needs members = (p q : ℕ) → IsMarked members p → Links needs (length members) p q → IsMarked members q

-- ---- what is so of these steps

-- a step in which a node stands
pub record StandsIn (steps : List (List ℕ)) (p : ℕ) : Type 0 where
  pub step : List ℕ
  pub listed : Contains steps step
  pub member : Contains step p

-- A step after others: it has a node; its nodes ascend, and are in none of the others; each of their needs is in the step
-- or in one of the others; and if needs lead from one of them to another, they lead back.
pub record IsNext (needs : List (List ℕ)) (n : ℕ) (before : List (List ℕ)) (step : List ℕ) : Type 0 where
  pub first : ℕ
  pub begun : Contains step first
  pub ascend : IsStrictlyIncreasing step
  pub once : (p : ℕ) → Contains step p → StandsIn before p → ⊥
  pub needed : (p q : ℕ) → Contains step p → Links needs n p q → StandsIn (before ++ step ∷ []) q
  pub back : (p q : ℕ) → Contains step p → Contains step q → Leads (Links needs n) p q → Leads (Links needs n) q p

-- each step comes after those before it
abbrev pub AreNext : List (List ℕ) → ℕ → List (List ℕ) → List (List ℕ) → Type 0
AreNext needs n before [] = Unit {0}
AreNext needs n before (step ∷ later) = IsNext needs n before step × AreNext needs n (before ++ step ∷ []) later

-- the steps come one after the other; each marked node is in one of them, and no other node is
pub record AreInOrder (needs : List (List ℕ)) (members : List Bool) (steps : List (List ℕ)) : Type 0 where
  pub order : AreNext needs (length members) [] steps
  pub whole : (p : ℕ) → IsMarked members p → StandsIn steps p
  pub only : (p : ℕ) → StandsIn steps p → IsMarked members p
