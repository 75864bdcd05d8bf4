use Rattle.std.proofs.Common.{◌+◌, drop, false}
use Rattle.std.specs.List.{fold}
use Rattle.catalogue.specs.Reading.{first_fault, nothing_begun, with_statement}
use Rattle.catalogue.proofs.HeaderFacts.{rest_at}
use Rattle.catalogue.proofs.ReadingFacts.{reads_next, faults_next}
use Rattle.catalogue.proofs.reading.read_changes.Goals as goal

pub loop-statement-preserved : goal.loop-statement-preserved
loop-statement-preserved c =
    let statements = c.args.statements.now in
    let i = c.loop-statement.statement-index in
    let at = rest_at statements i c.statement-item.result c.loop-statement-test.true c.statement-item.is in
    let taken = c.in_ok-reader.ensures in
    record {
      read = reads_next c.loop-statement.reader c.in_ok-reader.reader (fold with_statement nothing_begun statements) c.statement-item.result (drop i statements) (drop (i + 1) statements) at taken.read c.loop-statement.invariant.read;
      faults = faults_next c.loop-statement.reader c.in_ok-reader.reader (first_fault false statements) c.statement-item.result (drop i statements) (drop (i + 1) statements) at taken.read taken.no_fault c.loop-statement.invariant.faults;
    }
