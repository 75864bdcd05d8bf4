use Rattle.std.proofs.Common.{◌∙◌, ap, map, subst, sym, take}
use Rattle.std.specs.Prelude.{filter, suc}
use Rattle.std.specs.List.Sorted.{IsPermutation}
use Rattle.sqlite.specs.Held.{state}
use Rattle.sqlite.specs.Values.{bound}
use Rattle.sql_tables.specs.Stored.{shown}
use Rattle.sql_texts.specs.Reads.{from_table}
use Rattle.sql_reads.proofs.TableFacts.{finds_rows, table_found}
use Rattle.sql_reads.proofs.selection.select.Goals as goal

pub rows_of-requires-clause-read : goal.rows_of-requires-clause-read
rows_of-requires-clause-read g c =
    let s = g.T.Selection in
    (from_table g.T.Table.table.tree g.K.Key.tests (map suc s.shown) s.order, s.names, g.K.Key.parameters, c.text.ensures)

pub returns-clause-finds : goal.returns-clause-finds
returns-clause-finds g c =
    let t = g.T.Table in
    let s = g.T.Selection in
    let k = g.K.Key in
    let old = state g.S.Store c.args.conn.now in
    let key = c.args.key.now in
    finds_rows c.text.result.now (bound (take c.count.result c.params-params.result)) (k.values key)
    (ap (λ n. bound (take n c.params-params.result)) c.count.ensures.count ∙ c.params-params.ensures.bound) old (state g.S.Store c.rows_of.new.conn)
    (from_table t.table.tree k.tests (map suc s.shown) s.order) s.names k.parameters c.text.ensures c.rows_of.result c.rows_of.ensures.answers
    (λ stored rows. IsPermutation (map (shown s.shown) (filter (k.has key) (t.rows stored))) rows.items)
    (λ ours rows answer. subst (λ all. IsPermutation (map (shown s.shown) (filter (k.has key) all)) rows.items) (sym (t.stands.here old.committed.trees))
    (table_found t.table.tree k.tests s.shown s.order (k.values key) old.committed.trees rows.items (k.has key) (g.met.K.Key.given key c.params-params.ensures.fit) answer))
