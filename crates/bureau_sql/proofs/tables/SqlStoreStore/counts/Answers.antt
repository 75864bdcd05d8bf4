use Rattle.sqlite.specs.Held.{state}
use Rattle.bureau_sql.proofs.RecentFacts.{counts_more}
use Rattle.bureau_sql.proofs.tables.SqlStoreStore.counts.Goals as goal

pub invariant_of-self : goal.invariant_of-self
invariant_of-self g c = (
  c.counts-found.ensures.mode,
  counts_more (state g.S.Store c.self.inside.conn) (state g.S.Store c.counts-found.new.conn) c.self.inside.recent c.keep_counts.new.self c.counts-found.ensures.finds.reads c.self.invariant.1
      c.counts-found.result c.counts-found.ensures.finds.told c.keep_counts.ensures.counts c.keep_counts.ensures.others,
)
