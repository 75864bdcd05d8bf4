use Rattle.std.proofs.Common.{◌≡◌, Some, map, ap, ◌∙◌}
use Rattle.sqlite.specs.Held.{state}
use Rattle.sqlite_value.specs.Order.{column}
use Rattle.catalogue.specs.Content.{ids_of}
use Rattle.catalogue.specs.Ids.{Ascend}
use Rattle.sql_tables.specs.Stored.{tables_of}
use Rattle.sql_tables.specs.Values.{id_in}
use Rattle.sql_reads.proofs.PublishedFacts.{ids_shown}
use Rattle.sql_reads.proofs.TableFacts.{finds_from}
use Rattle.sql_reads.proofs.table.sysmod.ids.Goals as goal

pub returns-clause-finds : goal.returns-clause-finds
returns-clause-finds g c =
    let rows = c.in_ok-rows.rows in
    finds_from (state g.S.Store c.args.conn.now) (state g.S.Store c.select.new.conn) rows c.entries.result _ (λ stored ids. ids.items ≡ ids_of (tables_of stored).content) c.in_ok-rows.ensures.finds
    (λ ids. map Some ids.items ≡ map (λ row. id_in (column row 0)) c.as_slice.result.now) (λ ids. Ascend ids.items) c.entries.ensures.said c.entries.ensures.ascend
    (λ stored whole ids shows said ascend. ids_shown stored rows.items ids.items whole ascend shows (said ∙ ap (map (λ row. id_in (column row 0))) c.as_slice.ensures.value))
