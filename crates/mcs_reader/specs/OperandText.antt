-- An operand of a statement as a value: its name and the values of its list.
use Rattle.std.specs.Prelude.{ℕ, List}

-- an operand as a reader of the source sees it: its name and the values of its list
pub record OperandText : Type 0 where
  pub name : List ℕ
  pub values : List (List ℕ)
