use Rattle.sql_writes.proofs.AskFacts.{asks_stopped, asks_told}
use Rattle.sql_writes.proofs.FreeFacts.{free_where_bare}
use Rattle.sql_writes.proofs.free.are_free.Goals as goal

pub returns-in_err-is_bare-clause-asks : goal.returns-in_err-is_bare-clause-asks
returns-in_err-is_bare-clause-asks g c = asks_stopped _ _ _ _ c.from_residual.ensures.0 c.from_residual.ensures.1 c.in_err-is_bare.ensures.asks

pub returns-then-branch-clause-asks : goal.returns-then-branch-clause-asks
returns-then-branch-clause-asks g c = asks_told _ _ _ _ c.in_ok-is_bare.ensures.asks

pub returns-clause-asks : goal.returns-clause-asks
returns-clause-asks g c = asks_told _ _ _ _ c.in_ok-is_bare.ensures.asks

pub returns-then-branch-clause-free : goal.returns-then-branch-clause-free
returns-then-branch-clause-free g c found clean known = free_where_bare c.args.changes.now _ (c.in_ok-is_bare.ensures.bare c.if-branch.true clean known) (c.are_all_apart.ensures found)
