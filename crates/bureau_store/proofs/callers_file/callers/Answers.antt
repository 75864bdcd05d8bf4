use Rattle.bureau_store.proofs.CallerFacts.{rows_ascend}
use Rattle.bureau_store.proofs.callers_file.callers.Goals as goal

pub returns-clause-ascending : goal.returns-clause-ascending
returns-clause-ascending c =
    rows_ascend c.in_ok-list.list.names.entries c.in_ok-rows.rows.items c.in_ok-rows.ensures.rows c.in_ok-rows.ensures.ascending
