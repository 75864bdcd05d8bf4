use Rattle.std.proofs.Common.{◌≡◌, List, false, length}
use Rattle.mcs_reader.specs.Gathered.{operands_for}
use Rattle.mcs_reader.specs.Operand.{operand_texts}
use Rattle.mcs_reader.specs.OperandText.{OperandText}
use Rattle.mcs_reader.specs.Pieces.{no_name}
use Rattle.mcs_reader.specs.Position.{IsAfter}
use Rattle.mcs_reader.specs.Scan.{on_found, scan, with_operands}
use Rattle.mcs_reader.proofs.operand.gather_operands.Given as goal

-- the operands so far stand in front of those that are found after them, and what is asked for of them is gathered
abbrev pub invariant-names : goal.invariant-names
invariant-names l = (seen : List OperandText) × record {
  found : scan l.fn.line 0 no_name false l.fn.cursor.text ≡ on_found (with_operands seen) (scan l.fn.line 0 no_name false l.cursor.text);
  gathered : operand_texts l.scratch.operands.items ≡ operands_for l.fn.asked seen;
  after : IsAfter l.cursor l.fn.cursor;
}

abbrev pub decreases-names : goal.decreases-names
decreases-names l = length l.cursor.text
