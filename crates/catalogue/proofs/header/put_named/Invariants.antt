use Rattle.catalogue.proofs.HeaderFacts.{PutsFrom}
use Rattle.catalogue.proofs.header.put_named.Given as goal

-- what the operands to come put
abbrev pub invariant-loop-operand : goal.invariant-loop-operand
invariant-loop-operand l = PutsFrom l.name l.operands l.operand-index l.ids.keys l.fn.ids.keys
