use Rattle.sqlite.specs.Held.{state}
use Rattle.bureau_sql.proofs.RecentFacts.{fewer_recent, rows_more}
use Rattle.bureau_sql.proofs.tables.SqlStoreStore.zone.Goals as goal

pub invariant_of-self : goal.invariant_of-self
invariant_of-self g c =
    (c.self.invariant.0, fewer_recent (state g.S.Store c.self.inside.conn) c.self.inside.recent c.rows_of.new.self c.rows_of.ensures.fewer c.self.invariant.1)

pub invariant_of-self-2 : goal.invariant_of-self-2
invariant_of-self-2 g c = (
  c.zone-found.ensures.mode,
  rows_more (state g.S.Store c.self.inside.conn) (state g.S.Store c.zone-found.new.conn) c.rows_of.new.self c.keep_rows.new.self c.zone-found.ensures.finds.reads (fewer_recent (state g.S.Store c.self.inside.conn) c.self.inside.recent c.rows_of.new.self c.rows_of.ensures.fewer c.self.invariant.1)
      c.args.client.now c.args.zone.now c.zone-found.result c.zone-found.ensures.finds.told c.keep_rows.ensures.rows c.keep_rows.ensures.others,
)
