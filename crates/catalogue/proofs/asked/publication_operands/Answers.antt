use Rattle.catalogue.proofs.AskedFacts.{changes_asked, faults_asked, first_fault_asked, read_asked}
use Rattle.catalogue.proofs.asked.publication_operands.Goals as goal

pub returns-clause-changes : goal.returns-clause-changes
returns-clause-changes c names statements all = changes_asked names all statements

pub returns-clause-first_fault : goal.returns-clause-first_fault
returns-clause-first_fault c names begun statements all = first_fault_asked names begun all statements

pub returns-clause-read : goal.returns-clause-read
returns-clause-read c names begun statement all = read_asked names begun all statement

pub returns-clause-faults : goal.returns-clause-faults
returns-clause-faults c names begun statement all = faults_asked names begun all statement
