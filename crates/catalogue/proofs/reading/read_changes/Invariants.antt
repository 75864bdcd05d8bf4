use Rattle.std.proofs.Common.{◌≡◌, drop, false}
use Rattle.std.specs.Prelude.{is_some}
use Rattle.std.specs.List.{fold}
use Rattle.catalogue.specs.Reading.{first_fault, nothing_begun, with_statement}
use Rattle.catalogue.proofs.reading.read_changes.Given as goal

abbrev pub invariant-loop-statement : goal.invariant-loop-statement
invariant-loop-statement l = record {
  read : fold with_statement l.reader (drop l.statement-index l.statements) ≡ fold with_statement nothing_begun l.statements;
  faults : first_fault (is_some l.reader.open_record) (drop l.statement-index l.statements) ≡ first_fault false l.statements;
}
