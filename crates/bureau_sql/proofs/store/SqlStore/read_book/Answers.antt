use Rattle.std.proofs.Common.{◌≡◌, Err, rules}
use Rattle.bureau_sql.specs.Laws.{sql_lawful}
use Rattle.bureau_sql.specs.SqlView.{sql_view}
use Rattle.bureau_sql.proofs.SparedFacts.{answered_so, read_after, spared_on, spared_refused}
use Rattle.bureau_sql.proofs.store.SqlStore.read_book.Goals as goal

pub returns-then-not-branch : goal.returns-then-not-branch
returns-then-not-branch g c = answered_so (sql_view g.S.Store) c.args.self.now c.is_book_due.new.self c.in_ok-is_book_due.field-0 _ c.in_ok-is_book_due.ensures

pub returns : goal.returns
returns g c =
    let reads = read_after (sql_view g.S.Store) (sql_lawful g.S.Store) c.args.self.now c.is_book_due.new.self c.read_holds.new.self c.read_holds.result c.in_ok-is_book_due.ensures.asks.keeps c.read_holds.ensures in
    spared_on (sql_view g.S.Store) c.args.self.now c.read_holds.new.self c.read_holds.result c.in_ok-unless_short.field-0 _ c.in_ok-unless_short.ensures reads

pub returns-in_err-unless_short : goal.returns-in_err-unless_short
returns-in_err-unless_short g c =
    let is : c.from_residual-in_err-unless_short.result ≡ Err c.in_err-unless_short.field-0.0 = search (rules, c.from_residual-in_err-unless_short.ensures) in
    let reads = read_after (sql_view g.S.Store) (sql_lawful g.S.Store) c.args.self.now c.is_book_due.new.self c.read_holds.new.self c.read_holds.result c.in_ok-is_book_due.ensures.asks.keeps c.read_holds.ensures in
    spared_refused (sql_view g.S.Store) c.args.self.now c.read_holds.new.self c.read_holds.result c.in_err-unless_short.field-0.0 c.from_residual-in_err-unless_short.result c.in_err-unless_short.ensures is reads
