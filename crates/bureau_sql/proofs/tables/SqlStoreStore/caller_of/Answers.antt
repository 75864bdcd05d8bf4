use Rattle.sqlite.specs.Held.{state}
use Rattle.bureau_sql.proofs.RecentFacts.{fewer_recent, tokens_more}
use Rattle.bureau_sql.proofs.tables.SqlStoreStore.caller_of.Goals as goal

pub invariant_of-self : goal.invariant_of-self
invariant_of-self g c =
    (c.self.invariant.0, fewer_recent (state g.S.Store c.self.inside.conn) c.self.inside.recent c.caller_of.new.self c.caller_of.ensures.fewer c.self.invariant.1)

pub invariant_of-self-2 : goal.invariant_of-self-2
invariant_of-self-2 g c = (
  c.caller_of-found.ensures.mode,
  tokens_more (state g.S.Store c.self.inside.conn) (state g.S.Store c.caller_of-found.new.conn) c.caller_of.new.self c.keep_caller.new.self c.caller_of-found.ensures.finds.reads (fewer_recent (state g.S.Store c.self.inside.conn) c.self.inside.recent c.caller_of.new.self c.caller_of.ensures.fewer c.self.invariant.1)
      c.args.token.now c.caller_of-found.result c.caller_of-found.ensures.finds.told c.keep_caller.ensures.tokens c.keep_caller.ensures.others,
)
