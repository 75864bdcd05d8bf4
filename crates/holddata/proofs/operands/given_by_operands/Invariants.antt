use Rattle.std.proofs.Common.{take}
use Rattle.mcs_reader.specs.Operand.{operand_texts}
use Rattle.holddata.specs.Given.{IsGathered}
use Rattle.holddata.proofs.operands.given_by_operands.Given as goal

-- what the operands so far give
abbrev pub invariant-loop-operand : goal.invariant-loop-operand
invariant-loop-operand l = IsGathered l.given (operand_texts (take l.operand-index l.operands))
