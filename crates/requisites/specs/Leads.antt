-- Lists that lead from one to another by a relation.
use Rattle.std.specs.Prelude.{◌≡◌, List, [], ◌∷◌}

-- from x to each of the list in turn, the last of which is y; y is x if the list is empty
abbrev pub IsPath : {A : Type 0} → (A → A → Type 0) → A → List A → A → Type 0
IsPath Step x [] y = x ≡ y
IsPath Step x (z ∷ zs) y = Step x z × IsPath Step z zs y

-- some list leads from x to y, each related to the next
pub record Leads {A : Type 0} (Step : A → A → Type 0) (x y : A) : Type 0 where
  pub list : List A
  pub path : IsPath Step x list y
