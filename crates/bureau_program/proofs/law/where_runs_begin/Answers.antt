use Rattle.bureau_program.proofs.BeginFacts.{brought_tables, checked_has}
use Rattle.bureau_program.proofs.law.where_runs_begin.Goals as goal

pub returns-clause-makes : goal.returns-clause-makes
returns-clause-makes g c from source outcome kept done well left may = kept.made done well left may

pub returns-clause-brings : goal.returns-clause-brings
returns-clause-brings g c from outcome kept done well before holds left may = brought_tables from outcome _ kept done well before holds left may

pub returns-clause-finds : goal.returns-clause-finds
returns-clause-finds g c from output written checked well before holds = checked_has from _ output written checked well before holds
