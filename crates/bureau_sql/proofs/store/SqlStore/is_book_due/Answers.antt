use Rattle.std.proofs.Common.{◌≡◌, Err, rules, subst}
use Rattle.bureau_store.specs.Store.{Reads}
use Rattle.bureau_sql.specs.SqlView.{sql_view}
use Rattle.bureau_sql.proofs.SparedFacts.{spared_on, spared_refused}
use Rattle.bureau_sql.proofs.store.SqlStore.is_book_due.Goals as goal

pub returns : goal.returns
returns g c =
    let reads = subst (λ it. Reads (sql_view g.S.Store) it c.hold_count.new.self c.hold_count.result) c.in_ok-check_open.ensures.open.0 c.hold_count.ensures in
    spared_on (sql_view g.S.Store) c.args.self.now c.hold_count.new.self c.hold_count.result c.in_ok-holds.field-0 c.is_book_worth.result c.in_ok-holds.ensures reads

pub returns-in_default : goal.returns-in_default
returns-in_default g c =
    let reads = subst (λ it. Reads (sql_view g.S.Store) it c.hold_count.new.self c.hold_count.result) c.in_ok-check_open.ensures.open.0 c.hold_count.ensures in
    spared_on (sql_view g.S.Store) c.args.self.now c.hold_count.new.self c.hold_count.result c.in_ok-holds.field-0 _ c.in_ok-holds.ensures reads

pub returns-in_err-holds : goal.returns-in_err-holds
returns-in_err-holds g c =
    let is : c.from_residual-in_err-holds.result ≡ Err c.in_err-holds.field-0.0 = search (rules, c.from_residual-in_err-holds.ensures) in
    let reads = subst (λ it. Reads (sql_view g.S.Store) it c.hold_count.new.self c.hold_count.result) c.in_ok-check_open.ensures.open.0 c.hold_count.ensures in
    spared_refused (sql_view g.S.Store) c.args.self.now c.hold_count.new.self c.hold_count.result c.in_err-holds.field-0.0 c.from_residual-in_err-holds.result c.in_err-holds.ensures is reads
