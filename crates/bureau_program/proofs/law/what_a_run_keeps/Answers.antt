use Rattle.bureau_program.proofs.RunsFacts.{nothing_kept, other_over, serves_over, sets_over}
use Rattle.bureau_program.proofs.law.what_a_run_keeps.Goals as goal

pub returns-clause-serves : goal.returns-clause-serves
returns-clause-serves g c from log log_after outcome kept well left may = serves_over from _ well left may log log_after outcome kept

pub returns-clause-sets : goal.returns-clause-sets
returns-clause-sets g c from source rows outcome rows_are kept well left may = sets_over from _ well left may source rows outcome rows_are kept

pub returns-clause-others : goal.returns-clause-others
returns-clause-others g c from kept well left may = other_over from _ well left may kept

pub returns-clause-nothing : goal.returns-clause-nothing
returns-clause-nothing g c from none = nothing_kept from _ none
