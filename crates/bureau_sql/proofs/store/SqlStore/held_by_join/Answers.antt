use Rattle.std.proofs.Common.{◌≡◌, ◌∙◌, IfOk, ap, refl, subst}
use Rattle.catalogue.specs.View.{Tells}
use Rattle.bureau_store.specs.Held.{held_in}
use Rattle.bureau_store.specs.Tables.{rows_of, zone_named}
use Rattle.bureau_store.specs.declared.fault.StoreFault.TheVariants.{Device}
use Rattle.bureau_sql.specs.SqlState.{SqlState}
use Rattle.bureau_sql.specs.SqlView.{sql_view}
use Rattle.bureau_sql.proofs.ToldFacts.{tells}
use Rattle.bureau_sql.proofs.store.SqlStore.held_by_join.Goals as goal

pub returns-clause-holds : goal.returns-clause-holds
returns-clause-holds g c =
    let looked = c.in_ok-check_open.ensures.open in
    let same = c.self.view_is ∙ looked.0 in
    let old : SqlState _ = record { conn = c.self.inside.conn; failures = c.self.inside.failures; unseen = c.self.inside.unseen } in
    let mid : SqlState _ = record { conn = c.held_in-found.new.conn; failures = c.self.inside.failures; unseen = c.self.inside.unseen } in
    subst (λ it. IfOk c.answered.result (λ holds. Tells (sql_view g.S.Store) it c.answered.new.self
    (λ tables. holds.items ≡ held_in tables.content (rows_of (zone_named c.args.zone.now (tables.zones c.args.client.now))) c.args.kind))) same
    (tells g.S.Store Device old mid c.answered.new.self c.held_in-found.result _ (ap (λ it. it.failures) same ∙ looked.1) refl c.held_in-found.ensures.finds
    (λ tables holds. holds.items ≡ held_in tables.content (rows_of (zone_named c.args.zone.now (tables.zones c.args.client.now))) c.args.kind) (λ stored holds fact. fact)
    c.answered.result c.answered.ensures.told)
