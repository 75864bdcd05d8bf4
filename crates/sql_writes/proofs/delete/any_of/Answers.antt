use Rattle.std.proofs.Common.{◌∙◌, ap, subst, take}
use Rattle.sqlite.specs.Held.{state}
use Rattle.sqlite.specs.Values.{bound}
use Rattle.sql_rows.specs.Running.{FailsInside, Ran}
use Rattle.sql_rows.proofs.TableFacts.{goes}
use Rattle.sql_writes.proofs.StepFacts.{rows_go_takes}
use Rattle.sql_writes.proofs.delete.any_of.Goals as goal

pub returns-clause-changes : goal.returns-clause-changes
returns-clause-changes g c =
    let t = g.T.Table in
    let k = g.K.Key in
    let key = c.args.key.now in
    let given = ap (λ n. bound (take n c.params-params.result)) c.count.ensures.count ∙ c.params-params.ensures.bound in
    goes t.index t.table t.rows t.with_rows t.stands _ _ c.deletion.result.now (k.values key) k.tests k.parameters (k.has key) _ (g.met.K.Key.given key c.params-params.ensures.fit) c.deletion.ensures
    (subst (λ row. Ran c.deletion.result.now row (state g.S.Store c.args.tx.now.conn.now) (state g.S.Store c.run.new.tx.conn.now) c.run.result) given c.run.ensures.ran)

pub returns-clause-takes : goal.returns-clause-takes
returns-clause-takes g c =
    let t = g.T.Table in
    let k = g.K.Key in
    let key = c.args.key.now in
    let given = ap (λ n. bound (take n c.params-params.result)) c.count.ensures.count ∙ c.params-params.ensures.bound in
    rows_go_takes c.deletion.result.now _ _ _ t.index t.table t.rows t.with_rows t.stands k.tests k.parameters (k.values key) c.deletion.ensures (g.met.K.Key.counted key) (g.met.T.Deletes.accepts key)
    (subst (λ row. Ran c.deletion.result.now row (state g.S.Store c.args.tx.now.conn.now) (state g.S.Store c.run.new.tx.conn.now) c.run.result) given c.run.ensures.ran)
    (subst (λ row. FailsInside c.deletion.result.now row (state g.S.Store c.args.tx.now.conn.now) (state g.S.Store c.run.new.tx.conn.now) c.run.result) given c.run.ensures.fails)
