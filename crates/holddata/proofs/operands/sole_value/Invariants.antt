use Rattle.std.proofs.Common.{take}
use Rattle.mcs_reader.specs.Operand.{operand_texts}
use Rattle.holddata.specs.Given.{Shows}
use Rattle.holddata.specs.Operands.{values_of}
use Rattle.holddata.proofs.operands.sole_value.Given as goal

-- what the operands so far give
abbrev pub invariant-loop-operand : goal.invariant-loop-operand
invariant-loop-operand l = Shows l.given (values_of l.name (operand_texts (take l.operand-index l.operands)))
