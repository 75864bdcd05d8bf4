use Rattle.std.proofs.Common.{◌≡◌, ◌∙◌, Err, IfOk, Ok, Some, ap, refl, rules, subst, sym}
use Rattle.std.specs.Prelude.{option_map}
use Rattle.catalogue.specs.View.{Tells}
use Rattle.bureau_store.specs.Store.{Reads}
use Rattle.bureau_store.specs.Tables.{zone_named}
use Rattle.bureau_sql.specs.SqlView.{sql_view}
use Rattle.bureau_sql.proofs.SparedFacts.{held_on_zone, spared_on, spared_refused}
use Rattle.bureau_sql.proofs.store.SqlStore.held_by_book.Goals as goal

pub returns-clause-reads : goal.returns-clause-reads
returns-clause-reads g c =
    let reads = subst (λ it. Reads (sql_view g.S.Store) it c.zone.new.self c.zone.result) c.in_ok-check_open.ensures.open.0 c.zone.ensures.reads in
    spared_on (sql_view g.S.Store) c.args.self.now c.zone.new.self c.zone.result c.in_ok-rows.field-0 c.held_on.result c.in_ok-rows.ensures reads

pub returns-in_default-clause-reads : goal.returns-in_default-clause-reads
returns-in_default-clause-reads g c =
    let reads = subst (λ it. Reads (sql_view g.S.Store) it c.zone.new.self c.zone.result) c.in_ok-check_open.ensures.open.0 c.zone.ensures.reads in
    spared_on (sql_view g.S.Store) c.args.self.now c.zone.new.self c.zone.result c.in_ok-rows.field-0 _ c.in_ok-rows.ensures reads

pub returns-in_err-rows-clause-reads : goal.returns-in_err-rows-clause-reads
returns-in_err-rows-clause-reads g c =
    let is : c.from_residual-in_err-rows.result ≡ Err c.in_err-rows.field-0.0 = search (rules, c.from_residual-in_err-rows.ensures) in
    let reads = subst (λ it. Reads (sql_view g.S.Store) it c.zone.new.self c.zone.result) c.in_ok-check_open.ensures.open.0 c.zone.ensures.reads in
    spared_refused (sql_view g.S.Store) c.args.self.now c.zone.new.self c.zone.result c.in_err-rows.field-0.0 c.from_residual-in_err-rows.result c.in_err-rows.ensures is reads

pub returns-clause-holds : goal.returns-clause-holds
returns-clause-holds g c =
    let view = sql_view g.S.Store in
    let opened = c.in_ok-check_open.ensures.open.0 in
    held_on_zone g.S.Store c.args.client.now c.args.zone.now c.args.kind c.args.self.now c.zone.new.self c.in-Some-Some.rows.items c.held_on.result c.held_on.ensures.holds
    c.zone.result (Some c.in-Some-Some.rows) (sym c.in_ok-rows.ensures ∙ ap Ok (c.in-Some-Some.is ∙ ap Some c.in-Some-Some.field-0-is)) refl
    (subst (λ it. Reads view it c.zone.new.self c.zone.result) opened c.zone.ensures.reads)
    (subst (λ it. IfOk c.zone.result (λ found. Tells view it c.zone.new.self (λ tables. option_map (λ rows. rows.items) found ≡ option_map (λ table. table.rows) (zone_named c.args.zone.now (tables.zones c.args.client.now))))) opened c.zone.ensures.zone)
