use Rattle.std.proofs.Common.{◌≡◌, [], ◌∷◌, refl}
use Rattle.std.specs.Prelude.{codes}
use Rattle.sqlite.specs.Held.{state}
use Rattle.sql_reads.proofs.TableFacts.{finds}
use Rattle.sql_checks.specs.Refused.{SaysCount, of_count}
use Rattle.sql_checks.proofs.CauseFacts.{rows_unsaid, text_unsaid}
use Rattle.sql_checks.proofs.SayFacts.{count_parts}
use Rattle.sql_checks.proofs.asked.count.Goals as goal

pub returns-in-Ok-clause-finds : goal.returns-in-Ok-clause-finds
returns-in-Ok-clause-finds g c query many asked law =
    let old = state g.S.Store c.args.conn.now in
    let rows = c.as_slice.result.now in
    finds c.args.text.now [] [] refl old (state g.S.Store c.rows_of.new.conn) query (codes "count(*)" ∷ []) 0 asked c.in-Ok.rows rows c.as_slice.ensures.value
    c.in-Ok.ensures.answers c.count.result (SaysCount rows) c.count.ensures.said (λ stored count. count ≡ many stored)
    (λ ours answer count said. let it = count_parts rows count said in law old.committed.trees rows count ours.rows.whole it.0 it.1 answer)

pub returns-in-Ok-clause-cause : goal.returns-in-Ok-clause-cause
returns-in-Ok-clause-cause g c query asked =
    rows_unsaid (of_count query) SaysCount c.args.text.now asked [] refl (state g.S.Store c.args.conn.now) (state g.S.Store c.rows_of.new.conn) c.in-Ok.rows c.as_slice.result.now
    c.as_slice.ensures.value c.in-Ok.ensures.answers c.count.result c.count.ensures.unsaid

pub returns-in-Err-clause-cause : goal.returns-in-Err-clause-cause
returns-in-Err-clause-cause g c query asked =
    text_unsaid (of_count query) SaysCount c.args.text.now asked [] refl (state g.S.Store c.args.conn.now) (state g.S.Store c.rows_of.new.conn) c.in-Err.fault c.in-Err.ensures.cause
