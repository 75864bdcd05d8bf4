-- No part of what is promised but for `has`: private contracts cite it. How the SYSMODs that give one are
-- gathered.
use Rattle.std.specs.Prelude.{◌≡◌, ℕ, ◌++◌, Bool, true, not, List}
use Rattle.std.specs.List.{list_any}
use Rattle.catalogue.specs.Content.{Content}
use Rattle.catalogue.specs.Ids.{same_id}
use Rattle.supersede.specs.Leading.{IsWay}

-- whether an id stands in a list
abbrev pub has : List (List ℕ) → List ℕ → Bool
has ids id = list_any (same_id id) ids

-- whether an id is not this one
abbrev pub is_other : List ℕ → List ℕ → Bool
is_other id other = not (same_id other id)

-- two lists have the same members
abbrev pub Alike : List (List ℕ) → List (List ℕ) → Type 0
Alike xs ys = (test : List ℕ → Bool) → list_any test xs ≡ list_any test ys

-- one list begins with another
pub record Continues (old new : List (List ℕ)) : Type 0 where
  pub more : List (List ℕ)
  pub is : new ≡ old ++ more

-- a list of SYSMODs leads from one id to another, each superseding the next
pub record Leads (content : Content) (from to : List ℕ) : Type 0 where
  pub way : List (List ℕ)
  pub leads : IsWay content from way to

-- a list has exactly the ids from which superseding leads to one
pub record IsReach (content : Content) (ids : List (List ℕ)) (to : List ℕ) : Type 0 where
  pub leads : (from : List ℕ) → has ids from ≡ true → Leads content from to
  pub whole : (from : List ℕ) → Leads content from to → has ids from ≡ true
