use Rattle.bureau_program.proofs.RunsFacts.{held_after, held_since}
use Rattle.bureau_program.proofs.law.any_number_of_runs.Goals as goal

pub returns-clause-made : goal.returns-clause-made
returns-clause-made c = held_since

pub returns-clause-tables : goal.returns-clause-tables
returns-clause-tables c = held_after
