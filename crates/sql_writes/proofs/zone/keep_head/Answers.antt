use Rattle.std.proofs.Common.{◌∙◌, arith, refl}
use Rattle.sql_writes.proofs.FindFacts.{head_added}
use Rattle.sql_rows.proofs.ChangeFacts.{refused}
use Rattle.sql_writes.proofs.TakeFacts.{stopped_first, takes_here, takes_more, takes_told}
use Rattle.sql_writes.proofs.zone.keep_head.Goals as goal

pub returns-in_err-has_rows_of-clause-changes : goal.returns-in_err-has_rows_of-clause-changes
returns-in_err-has_rows_of-clause-changes g c = refused _ _ _ _ (λ stored. stored) _ c.from_residual.ensures.0 c.in_err-has_rows_of.ensures.asks.changes

pub returns-clause-changes : goal.returns-clause-changes
returns-clause-changes g c =
    head_added _ _ _ c.args.client.now c.args.zone.now _ _ c.in_ok-has_rows_of.ensures.asks.changes (λ clean known. c.in_ok-has_rows_of.ensures.found clean known ∙ c.if-branch.false) c.joined.ensures.changes

pub returns-in_err-has_rows_of-clause-takes : goal.returns-in_err-has_rows_of-clause-takes
returns-in_err-has_rows_of-clause-takes g c =
    stopped_first _ _ c.in_err-has_rows_of.field-0.0 _ 0 1 (λ stored. Unit {0}) (λ stored. Unit {0}) c.from_residual.ensures.1 (λ stored u. tt) c.in_err-has_rows_of.ensures.asks.takes (omega arith)

pub returns-clause-takes : goal.returns-clause-takes
returns-clause-takes g c =
    takes_here _ _ _ _ _ (λ stored. stored) 0 1 (λ stored. Unit {0}) _ (λ clean known u. c.in_ok-has_rows_of.ensures.found clean known ∙ c.if-branch.false) c.in_ok-has_rows_of.ensures.asks.changes c.in_ok-has_rows_of.ensures.asks.takes c.joined.ensures.changes.survives (c.joined.ensures.takes refl)

pub returns-then-branch-clause-takes : goal.returns-then-branch-clause-takes
returns-then-branch-clause-takes g c =
    takes_more _ _ _ 0 1 (λ stored. Unit {0}) (λ stored. Unit {0}) (λ stored u. u) (omega arith) (takes_told _ _ _ tt 0 (λ stored. Unit {0}) c.in_ok-has_rows_of.ensures.asks.takes)
