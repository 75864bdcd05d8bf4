use Rattle.std.proofs.Common.{[], ◌∷◌, refl}
use Rattle.std.specs.Prelude.{codes}
use Rattle.std.specs.List.Sorted.{IsPermutation}
use Rattle.lemmas.proofs.ResultFacts.{ok_so}
use Rattle.sqlite.specs.Held.{state}
use Rattle.sql_tables.specs.Stored.{tables_of}
use Rattle.sql_texts.specs.Reads as read
use Rattle.sql_reads.proofs.CallerFacts.{callers_told}
use Rattle.sql_reads.proofs.TableFacts.{finds}
use Rattle.sql_checks.specs.Refused.{SaysCallers, of_callers}
use Rattle.sql_checks.proofs.CauseFacts.{rows_unsaid, text_unsaid}
use Rattle.sql_checks.proofs.asked.every_caller.Goals as goal

pub returns-in-Ok-clause-finds : goal.returns-in-Ok-clause-finds
returns-in-Ok-clause-finds g c =
    let old = state g.S.Store c.args.conn.now in
    let rows = c.as_slice.result.now in
    finds c.callers.result.now [] [] refl old (state g.S.Store c.rows_of.new.conn) read.callers (codes "name" ∷ codes "token" ∷ []) 0 c.callers.ensures c.in-Ok.rows rows c.as_slice.ensures.value
    c.in-Ok.ensures.answers c.callers-in-Ok.result (λ callers. SaysCallers rows callers.items) c.callers-in-Ok.ensures.said
    (λ stored callers. IsPermutation (tables_of stored).callers callers.items)
    (λ ours answer callers said. callers_told old.committed.trees rows callers.items answer said.0)

pub returns-in-Ok-clause-ascend : goal.returns-in-Ok-clause-ascend
returns-in-Ok-clause-ascend g c = ok_so c.callers-in-Ok.result c.callers-in-Ok.ensures.said (λ callers said. said.1)

pub returns-in-Ok-clause-cause : goal.returns-in-Ok-clause-cause
returns-in-Ok-clause-cause g c =
    rows_unsaid of_callers SaysCallers c.callers.result.now c.callers.ensures [] refl (state g.S.Store c.args.conn.now) (state g.S.Store c.rows_of.new.conn) c.in-Ok.rows c.as_slice.result.now
    c.as_slice.ensures.value c.in-Ok.ensures.answers c.callers-in-Ok.result c.callers-in-Ok.ensures.unsaid

pub returns-in-Err-clause-cause : goal.returns-in-Err-clause-cause
returns-in-Err-clause-cause g c =
    text_unsaid of_callers SaysCallers c.callers.result.now c.callers.ensures [] refl (state g.S.Store c.args.conn.now) (state g.S.Store c.rows_of.new.conn) c.in-Err.fault c.in-Err.ensures.cause
