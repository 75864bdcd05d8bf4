use Rattle.std.proofs.Common.{◌≡◌, Some, ap, map, ◌∙◌}
use Rattle.std.specs.Prelude.{filter}
use Rattle.sqlite.specs.Held.{state}
use Rattle.sql_tables.specs.Stored.{shown}
use Rattle.sql_reads.proofs.ClientFacts.{table_said}
use Rattle.sql_reads.proofs.TableFacts.{finds_from}
use Rattle.sql_reads.proofs.listed.read_list.Goals as goal

pub returns-clause-finds : goal.returns-clause-finds
returns-clause-finds g c =
    let t = g.T.Selection in
    let l = g.T.Listed in
    let e = g.T.Item.Entry in
    let key = c.args.key.now in
    finds_from (state g.S.Store c.args.conn.now) (state g.S.Store c.select.new.conn) c.in_ok-rows.rows c.list_of.result _
    (λ stored list. l.tells key stored (l.items list)) c.in_ok-rows.ensures.finds
    (λ list. map Some (l.items list) ≡ map e.found c.as_slice.result.now) (λ list. g.T.Item.Ordered.ascend (l.items list)) c.list_of.ensures.items c.list_of.ensures.ascend
    (λ stored whole list shows said ascends. g.met.T.Listed.told key stored whole (l.items list) ascends
    (table_said e.found (shown t.shown) (filter (g.K.Key.has key) (g.T.Table.rows stored)) c.in_ok-rows.rows.items (l.items list) shows (said ∙ ap (map e.found) c.as_slice.ensures.value)))
