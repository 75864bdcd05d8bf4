use Rattle.std.proofs.Common.{◌≡◌, [], Some, ap, subst, sym, ◌∙◌}
use Rattle.std.specs.Prelude.{Option, filter, option_and_then, unwrap_or}
use Rattle.sqlite.specs.Held.{state}
use Rattle.sqlite_value.specs.Order.{Row}
use Rattle.sql_tables.specs.Stored.{shown}
use Rattle.sql_reads.specs.Answering.{one_of}
use Rattle.sql_reads.proofs.TableFacts.{finds_from, one_shown}
use Rattle.sql_reads.proofs.one.read_one.Goals as goal

pub returns-clause-finds : goal.returns-clause-finds
returns-clause-finds g c =
    let t = g.T.Selection in
    let o = g.T.One in
    let key = c.args.key.now in
    let rows = c.in_ok-rows.rows in
    finds_from (state g.S.Store c.args.conn.now) (state g.S.Store c.select.new.conn) rows c.item_of.result _
    (λ stored list. o.tells key stored list.items) c.in_ok-rows.ensures.finds
    (λ list. (row : Option Row) × (one_of Some c.as_slice.result.now ≡ Some row) × (list.items ≡ unwrap_or (option_and_then o.found row) [])) (λ list. g.T.Item.Ordered.ascend list.items)
    c.item_of.ensures.said c.item_of.ensures.ascend
    (λ stored whole list shows said ascend. g.met.T.One.told key stored whole list.items
    (subst (λ row. list.items ≡ unwrap_or (option_and_then o.found row) [])
    (sym (one_shown (shown t.shown) (filter (g.K.Key.has key) (g.T.Table.rows stored)) rows.items said.0 shows (ap (one_of Some) (sym c.as_slice.ensures.value) ∙ said.1))) said.2))
