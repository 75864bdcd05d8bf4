use Rattle.sqlite.specs.Held.{state}
use Rattle.sql_reads.proofs.ClientFacts.{zone_both}
use Rattle.sql_reads.proofs.TableFacts.{finds_on}
use Rattle.sql_reads.proofs.joins.zone.Goals as goal

pub returns-clause-finds : goal.returns-clause-finds
returns-clause-finds g c =
    finds_on (state g.S.Store c.args.conn.now) (state g.S.Store c.has_zone.new.conn) (state g.S.Store c.zone_rows.new.conn) c.in_ok-has_zone.field-0 c.in_ok-rows.rows _ _ _ _
    c.in_ok-has_zone.ensures.finds c.in_ok-rows.ensures.finds (λ stored whole found rows. zone_both stored c.args.client.now c.args.zone.now c.in_ok-has_zone.field-0 c.in_ok-rows.rows.items found c.if-not-branch.false rows)
