use Rattle.std.proofs.Common.{◌≡◌}
use Rattle.std.specs.Prelude.{map}
use Rattle.sqlite.specs.Held.{state}
use Rattle.catalogue.specs.Seen.{seen_in}
use Rattle.sql_tables.proofs.StopFacts.{read_on}
use Rattle.sql_tables.specs.Stored.{tables_of}
use Rattle.sql_reads.proofs.TableFacts.{finds_made, finds_pair, refused_on}
use Rattle.sql_reads.proofs.many.seen.Goals as goal

pub returns-in_err-sups-clause-finds : goal.returns-in_err-sups-clause-finds
returns-in_err-sups-clause-finds g c =
    let at = state g.S.Store in
    refused_on (at c.args.conn.now) (at c.scan.new.conn) (at c.scan-2.new.conn) c.from_residual-in_err-sups.result _ c.from_residual-in_err-sups.ensures.0 c.in_ok-records.ensures.finds.reads c.in_err-sups.ensures.finds.reads

pub returns-in_err-conds-clause-finds : goal.returns-in_err-conds-clause-finds
returns-in_err-conds-clause-finds g c =
    let at = state g.S.Store in
    refused_on (at c.args.conn.now) (at c.scan-2.new.conn) (at c.scan-3.new.conn) c.from_residual-in_err-conds.result _ c.from_residual-in_err-conds.ensures.0
    (read_on (at c.args.conn.now) (at c.scan.new.conn) (at c.scan-2.new.conn) c.in_ok-records.ensures.finds.reads c.in_ok-sups.ensures.finds.reads) c.in_err-conds.ensures.finds.reads

pub returns-in_err-holds-clause-finds : goal.returns-in_err-holds-clause-finds
returns-in_err-holds-clause-finds g c =
    let at = state g.S.Store in
    refused_on (at c.args.conn.now) (at c.scan-3.new.conn) (at c.scan-4.new.conn) c.from_residual-in_err-holds.result _ c.from_residual-in_err-holds.ensures.0
    (read_on (at c.args.conn.now) (at c.scan-2.new.conn) (at c.scan-3.new.conn)
    (read_on (at c.args.conn.now) (at c.scan.new.conn) (at c.scan-2.new.conn) c.in_ok-records.ensures.finds.reads c.in_ok-sups.ensures.finds.reads) c.in_ok-conds.ensures.finds.reads) c.in_err-holds.ensures.finds.reads

pub returns-clause-finds : goal.returns-clause-finds
returns-clause-finds g c =
    let at = state g.S.Store in
    let ids = c.args.ids.now in
    let two = finds_pair (at c.args.conn.now) (at c.scan.new.conn) (at c.scan-2.new.conn) c.in_ok-records.records c.in_ok-sups.sups _ _ c.in_ok-records.ensures.finds c.in_ok-sups.ensures.finds in
    let three = finds_pair (at c.args.conn.now) (at c.scan-2.new.conn) (at c.scan-3.new.conn) (c.in_ok-records.records, c.in_ok-sups.sups) c.in_ok-conds.conds _ _ two c.in_ok-conds.ensures.finds in
    let four = finds_pair (at c.args.conn.now) (at c.scan-3.new.conn) (at c.scan-4.new.conn) ((c.in_ok-records.records, c.in_ok-sups.sups), c.in_ok-conds.conds) c.in_ok-holds.holds _ _ three c.in_ok-holds.ensures.finds in
    finds_made (at c.args.conn.now) (at c.scan-4.new.conn) (((c.in_ok-records.records, c.in_ok-sups.sups), c.in_ok-conds.conds), c.in_ok-holds.holds) c.each_seen.result _
    (λ stored seen. seen.items ≡ map (seen_in (tables_of stored).content) ids) four _ c.each_seen.ensures
    (λ stored seen found said. said stored (record {
      of_records = rw (c.new.ensures, c.as_slice.ensures.value) found.0.0.0;
      of_sups = rw (c.new-2.ensures, c.as_slice-2.ensures.value) found.0.0.1;
      of_conds = rw (c.new-3.ensures, c.as_slice-3.ensures.value) found.0.1;
      of_holds = rw (c.new-4.ensures, c.as_slice-4.ensures.value) found.1;
    }))
