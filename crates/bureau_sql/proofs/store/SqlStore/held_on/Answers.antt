use Rattle.std.proofs.Common.{subst, sym}
use Rattle.sqlite.specs.Held.{state}
use Rattle.bureau_sql.specs.Recent.{IsRecent}
use Rattle.bureau_sql.specs.SqlState.{SqlState}
use Rattle.bureau_sql.proofs.SparedFacts.{held_of_book}
use Rattle.bureau_sql.proofs.store.SqlStore.held_on.Goals as goal

pub returns-clause-holds : goal.returns-clause-holds
returns-clause-holds g c =
    held_of_book (state g.S.Store c.args.self.now.conn) c.self.inside.recent
    (subst (λ (it : SqlState _). IsRecent (state g.S.Store it.conn) c.self.inside.recent) c.self.view_is c.self.invariant.1) c.in_ok-book.book.now c.from_rows-zone.result c.args.rows.items c.args.kind
    (sym c.in_ok-book.ensures.same) c.from_rows-zone.ensures c.held_among.result c.held_among.ensures.holds c.ok.result c.ok.ensures.value
