use Rattle.csv.specs.Records.{fields_of}
use Rattle.zone_lists.proofs.ReaderFacts.{read_left, reads_on}
use Rattle.zone_lists.proofs.records.Records.read_next.Goals as goal

pub returns-clause-goes_on : goal.returns-clause-goes_on
returns-clause-goes_on c =
    let how = c.in_ok-found.ensures in
    reads_on c.args.self.now.reader c.read_byte_record.new.self c.in_ok-found.found (fields_of c.read_byte_record.new.row) c.requires (how.ready c.requires.untrimmed) (
    how.reads c.requires.untrimmed c.requires.ready
    )

pub returns-clause-takes : goal.returns-clause-takes
returns-clause-takes c =
    read_left c.args.self.now.reader c.read_byte_record.new.self c.in_ok-found.found (fields_of c.read_byte_record.new.row) c.requires (
    c.in_ok-found.ensures.reads c.requires.untrimmed c.requires.ready
    )
