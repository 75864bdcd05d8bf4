use Rattle.holddata.proofs.AskedFacts.{change_asked, changes_asked, faults_asked, first_fault_asked}
use Rattle.holddata.proofs.asked.hold_operands.Goals as goal

pub returns-clause-change : goal.returns-clause-change
returns-clause-change c names statement all = change_asked names all statement

pub returns-clause-faults : goal.returns-clause-faults
returns-clause-faults c names statement all = faults_asked names all statement

pub returns-clause-changes : goal.returns-clause-changes
returns-clause-changes c names statements all = changes_asked names all statements

pub returns-clause-first_fault : goal.returns-clause-first_fault
returns-clause-first_fault c names statements all = first_fault_asked names all statements
