use Rattle.std.proofs.Common.{◌≡◌, Err, rules}
use Rattle.bureau_store.specs.Held.{held_in}
use Rattle.bureau_store.specs.Tables.{rows_of, zone_named}
use Rattle.catalogue.specs.View.{Tells}
use Rattle.catalogue.proofs.SourceFacts.{told_later}
use Rattle.lemmas.proofs.ResultFacts.{some_is}
use Rattle.bureau_sql.specs.Laws.{sql_lawful}
use Rattle.bureau_sql.specs.SqlView.{sql_view}
use Rattle.bureau_sql.proofs.SparedFacts.{answered_so, read_after, refused_so, told_after}
use Rattle.bureau_sql.proofs.tables.SqlStoreStore.held_in.Goals as goal

pub returns-in_err-holds-clause-reads : goal.returns-in_err-holds-clause-reads
returns-in_err-holds-clause-reads g c =
    let is : c.from_residual-in_err-holds.result ≡ Err c.in_err-holds.field-0.0 = search (rules, c.from_residual-in_err-holds.ensures) in
    refused_so (sql_view g.S.Store) c.args.self.now c.held_by_book.new.self c.in_err-holds.field-0.0 c.from_residual-in_err-holds.result is
    (read_after (sql_view g.S.Store) (sql_lawful g.S.Store) c.args.self.now c.read_book.new.self c.held_by_book.new.self _ c.in_ok-read_book.ensures.asks.keeps c.in_err-holds.ensures.reads)

pub returns-in-Some-clause-reads : goal.returns-in-Some-clause-reads
returns-in-Some-clause-reads g c =
    answered_so (sql_view g.S.Store) c.args.self.now c.held_by_book.new.self c.in_ok-holds.field-0 c.in-Some.holds
    (read_after (sql_view g.S.Store) (sql_lawful g.S.Store) c.args.self.now c.read_book.new.self c.held_by_book.new.self _ c.in_ok-read_book.ensures.asks.keeps c.in_ok-holds.ensures.reads)

pub returns-in-Some-clause-holds : goal.returns-in-Some-clause-holds
returns-in-Some-clause-holds g c =
    let law = sql_lawful g.S.Store in
    told_later (law.keeps c.args.self.now c.read_book.new.self c.in_ok-read_book.ensures.asks.keeps) (law.keeps c.read_book.new.self c.held_by_book.new.self c.in_ok-holds.ensures.reads.asks.keeps)
    (some_is (λ holds. Tells (sql_view g.S.Store) c.read_book.new.self c.held_by_book.new.self
    (λ tables. holds.items ≡ held_in tables.content (rows_of (zone_named c.args.zone.now (tables.zones c.args.client.now))) c.args.kind)) c.in_ok-holds.field-0 c.in-Some.holds c.in-Some.is c.in_ok-holds.ensures.holds)

pub returns-clause-reads : goal.returns-clause-reads
returns-clause-reads g c =
    let law = sql_lawful g.S.Store in
    read_after (sql_view g.S.Store) law c.args.self.now c.held_by_book.new.self c.held_by_join.new.self c.held_by_join.result
    (law.on c.args.self.now c.read_book.new.self c.held_by_book.new.self c.in_ok-read_book.ensures.asks.keeps c.in_ok-holds.ensures.reads.asks.keeps) c.held_by_join.ensures.reads

pub returns-clause-holds : goal.returns-clause-holds
returns-clause-holds g c =
    let law = sql_lawful g.S.Store in
    told_after (sql_view g.S.Store) law c.args.self.now c.held_by_book.new.self c.held_by_join.new.self c.held_by_join.result
    (λ holds tables. holds.items ≡ held_in tables.content (rows_of (zone_named c.args.zone.now (tables.zones c.args.client.now))) c.args.kind)
    (law.on c.args.self.now c.read_book.new.self c.held_by_book.new.self c.in_ok-read_book.ensures.asks.keeps c.in_ok-holds.ensures.reads.asks.keeps) c.held_by_join.ensures.reads.asks.keeps c.held_by_join.ensures.holds
