use Rattle.sqlite.specs.Held.{state}
use Rattle.bureau_sql.proofs.RecentFacts.{fewer_recent, zones_more}
use Rattle.bureau_sql.proofs.tables.SqlStoreStore.zones.Goals as goal

pub invariant_of-self : goal.invariant_of-self
invariant_of-self g c =
    (c.self.invariant.0, fewer_recent (state g.S.Store c.self.inside.conn) c.self.inside.recent c.zones_of.new.self c.zones_of.ensures.fewer c.self.invariant.1)

pub invariant_of-self-2 : goal.invariant_of-self-2
invariant_of-self-2 g c = (
  c.zones-found.ensures.mode,
  zones_more (state g.S.Store c.self.inside.conn) (state g.S.Store c.zones-found.new.conn) c.zones_of.new.self c.keep_zones.new.self c.zones-found.ensures.finds.reads (fewer_recent (state g.S.Store c.self.inside.conn) c.self.inside.recent c.zones_of.new.self c.zones_of.ensures.fewer c.self.invariant.1)
      c.args.client.now c.zones-found.result c.zones-found.ensures.finds.told c.keep_zones.ensures.zones c.keep_zones.ensures.others,
)
