-- An operand of the code, and the operand text that it stands for.
use Rattle.std.specs.Prelude.{List, map}
use Rattle.mcs_reader.specs.OperandText.{OperandText}
use Rattle.mcs_reader.specs.declared.statement.Operand.{Operand}

-- an operand apart from where it lies in the source
abbrev pub operand_text : Operand → OperandText
operand_text operand = record { name = operand.name.now; values = operand.values }

abbrev pub operand_texts : List Operand → List OperandText
operand_texts operands = map operand_text operands
