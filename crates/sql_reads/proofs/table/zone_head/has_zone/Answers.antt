use Rattle.std.proofs.Common.{◌≡◌, Ok, ap, ◌∙◌}
use Rattle.std.specs.Prelude.{is_some}
use Rattle.sqlite.specs.Held.{state}
use Rattle.bureau_store.specs.Tables.{zone_named}
use Rattle.sql_tables.specs.Stored.{first, tables_of}
use Rattle.sql_reads.proofs.ClientFacts.{zone_told}
use Rattle.sql_reads.proofs.TableFacts.{finds_made}
use Rattle.sql_reads.proofs.table.zone_head.has_zone.Goals as goal

pub returns-clause-finds : goal.returns-clause-finds
returns-clause-finds g c =
    let client = c.args.client.now in
    let zone = c.args.zone.now in
    let rows = c.in_ok-rows.rows in
    finds_made (state g.S.Store c.args.conn.now) (state g.S.Store c.select.new.conn) rows (Ok c.any.result) _ (λ stored found. found ≡ is_some (zone_named zone ((tables_of stored).zones client)))
    c.in_ok-rows.ensures.finds (λ found. found ≡ is_some (first c.as_slice.result.now)) c.any.ensures
    (λ stored found shows said. zone_told stored client zone rows.items found shows (said ∙ ap (λ rs. is_some (first rs)) c.as_slice.ensures.value))
