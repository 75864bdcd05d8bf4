use Rattle.bureau_program.proofs.BeginFacts.{ends_well, last_leaves}
use Rattle.bureau_program.proofs.law.what_a_copy_leaves.Goals as goal

pub returns-clause-well : goal.returns-clause-well
returns-clause-well g c from last = ends_well from _ _ last

pub returns-clause-left : goal.returns-clause-left
returns-clause-left g c from last left may = last_leaves from _ _ last left may
