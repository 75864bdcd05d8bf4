use Rattle.std.proofs.Common.{◌∙◌, ap, refl, subst}
use Rattle.bureau_store.specs.Store.{Reads}
use Rattle.bureau_store.specs.declared.fault.StoreFault.TheVariants.{Device}
use Rattle.sqlite.specs.Held.{state}
use Rattle.bureau_sql.specs.SqlState.{SqlState}
use Rattle.bureau_sql.specs.SqlView.{sql_view}
use Rattle.bureau_sql.proofs.RecentFacts.{book_more}
use Rattle.bureau_sql.proofs.SparedFacts.{finds_kept}
use Rattle.bureau_sql.proofs.ToldFacts.{asks}
use Rattle.bureau_sql.proofs.store.SqlStore.read_holds.Goals as goal

pub invariant_of-self : goal.invariant_of-self
invariant_of-self g c = (
  c.holds-found.ensures.mode,
  book_more (state g.S.Store c.self.inside.conn) (state g.S.Store c.holds-found.new.conn) c.self.inside.recent c.keep_book-kept.new.self c.holds-found.ensures.finds.reads c.self.invariant.1
      c.holds-found.result c.holds-found.ensures.finds.told c.keep_book-kept.ensures.book c.keep_book-kept.ensures.others,
)

pub returns : goal.returns
returns g c =
    let looked = c.in_ok-check_open.ensures.open in
    let same = c.self.view_is ∙ looked.0 in
    let old : SqlState _ = record { conn = c.self.inside.conn; failures = c.self.inside.failures; unseen = c.self.inside.unseen } in
    let mid : SqlState _ = record { conn = c.holds-found.new.conn; failures = c.self.inside.failures; unseen = c.self.inside.unseen } in
    subst (λ it. Reads (sql_view g.S.Store) it c.answered.new.self c.answered.result) same (record {
      asks = asks g.S.Store Device old mid c.answered.new.self c.keep_book-kept.result _ (ap (λ it. it.failures) same ∙ looked.1) refl
          (finds_kept (state g.S.Store c.self.inside.conn) (state g.S.Store c.holds-found.new.conn) c.holds-found.result c.keep_book-kept.result _ c.keep_book-kept.ensures.told c.holds-found.ensures.finds)
          c.answered.result c.answered.ensures.told;
      refusal = c.answered.ensures.refusal;
    })
