-- Statements with those of their operands that somebody asks for by name.
use Rattle.std.specs.Prelude.{ℕ, Bool, List, filter, map, Ok, Err}
use Rattle.std.specs.List.{list_any}
use Rattle.std.specs.Str.{str_eq_ignore_ascii_case}
use Rattle.mcs_reader.specs.OperandText.{OperandText}
use Rattle.mcs_reader.specs.Unread.{Read}
use Rattle.mcs_reader.specs.declared.statement.Statement.{Statement}

-- whether an operand has one of the names; they are compared without regard to case
abbrev pub is_asked : List (List ℕ) → OperandText → Bool
is_asked names operand = list_any (λ name. str_eq_ignore_ascii_case operand.name name) names

-- a statement with those operands alone that have one of the names
abbrev pub asking : List (List ℕ) → Statement → Statement
asking names statement = record statement { operands = filter (is_asked names) statement.operands }

-- the reading of a text if those operands alone are asked for; a text that is refused stays refused
abbrev pub reading_asking : List (List ℕ) → Read → Read
reading_asking names (Ok statements) = Ok (map (asking names) statements)
reading_asking names (Err fault) = Err fault
