use Rattle.std.proofs.Common.{◌≡◌, ◌++◌, drop}
use Rattle.std.specs.Prelude.{codes}
use Rattle.mcs_reader.specs.Bytes.{bytes_of_each}
use Rattle.mcs_reader.specs.Operand.{operand_texts}
use Rattle.holddata.specs.Operands.{values_of}
use Rattle.holddata.proofs.category_values.category_values.Given as goal

-- the values so far with those to come are all
abbrev pub invariant-loop-operand : goal.invariant-loop-operand
invariant-loop-operand l =
    bytes_of_each l.values.items ++ values_of (codes "CATEGORY") (operand_texts (drop l.operand-index l.operands)) ≡ values_of (codes "CATEGORY") (operand_texts l.operands)
