use Rattle.std.proofs.Common.{◌∙◌, ap, take}
use Rattle.sqlite.specs.Values.{bound}
use Rattle.sql_writes.proofs.SeveralFacts.{fit_so, rows_come, rows_take}
use Rattle.sql_writes.proofs.insert.rows.Goals as goal

pub returns-clause-changes : goal.returns-clause-changes
returns-clause-changes g c =
    let t = g.T.Table in
    let s = g.T.Several in
    let k = g.K.Key in
    let key = c.args.key.now in
    let given = ap (λ n. bound (take n c.params_of-params.result)) c.count_of-count.ensures.count ∙ c.params_of-params.ensures.bound in
    rows_come t.index t.table t.rows t.with_rows t.stands (s.row_of key) k.parameters s.own (k.values key) s.values_of c.args.items.now (take c.count_of-count.result c.params_of-params.result) given
    (g.met.T.Several.given key c.args.items.now c.requires.count) _ _ c.args.text.now _ (λ clean. c.requires.means) c.run.ensures.ran (g.met.T.Several.cast key)

pub returns-clause-takes : goal.returns-clause-takes
returns-clause-takes g c short =
    let t = g.T.Table in
    let s = g.T.Several in
    let k = g.K.Key in
    let key = c.args.key.now in
    let given = ap (λ n. bound (take n c.params_of-params.result)) c.count_of-count.ensures.count ∙ c.params_of-params.ensures.bound in
    let is = c.params_of-params.ensures.key in
    rows_take t.index t.table t.rows t.with_rows t.stands (s.row_of key) k.parameters s.own (k.values key) s.values_of c.args.items.now (take c.count_of-count.result c.params_of-params.result) given
    (g.met.T.Several.given key c.args.items.now c.requires.count) _ _ c.args.text.now _ (λ clean. c.requires.means) c.run.ensures.ran
    (λ item. s.is_fit item × s.is_short item) (s.is_same key) (λ db others item both none. g.met.T.Several.unique db others key item is both.0 none)
    (λ item both. g.met.T.Several.fits key item is both.0 both.1) (fit_so s.is_fit s.is_short c.args.items.now c.params_of-params.ensures.fit short) c.run.ensures.fails
