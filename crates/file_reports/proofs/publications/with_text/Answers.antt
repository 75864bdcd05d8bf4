use Rattle.std.proofs.Common.{◌≡◌, false, [], Ok, ◌∙◌, ap, sym, refl, subst, IsTrue}
use Rattle.holddata.proofs.LastFacts.{where_none}
use Rattle.mcs_reader.specs.ReadingOf.{reading_of}
use Rattle.mcs_reader.specs.Bytes.{bytes_of_each}
use Rattle.holddata.specs.Asked.{are_among}
use Rattle.catalogue.specs.Asked.{publication_operands}
use Rattle.catalogue.specs.Reading.{changes_in, nothing_begun, with_statement}
use Rattle.bureau.proofs.PublicationFacts.{ended_with, published_asking, published_from}
use Rattle.file_reports.proofs.GatheringFacts.{read_next}
use Rattle.file_reports.proofs.publications.with_text.Goals as goal

pub statements-init : goal.statements-init
statements-init c =
    let names = bytes_of_each c.publication_operands.result.now in
    let among : IsTrue (are_among publication_operands names) = subst (λ ns. IsTrue (are_among publication_operands ns)) (sym c.publication_operands.ensures.names) refl in (
      nothing_begun,
      c.new-reading.ensures,
      ap (published_from nothing_begun) c.in_ok-statements.ensures.ok
          ∙ published_asking names (reading_of c.args.text.now)
          (λ statements. c.publication_operands.ensures.changes names statements among)
          (λ statements. c.publication_operands.ensures.first_fault names false statements among),
    )

pub statements-preserved : goal.statements-preserved
statements-preserved c =
    let gives = rw c.in-Some.is at c.in_ok-statement.ensures.next in
    let was = c.statements.invariant in (
      with_statement was.0 c.in-Some.statement,
      c.in-Ok.ensures.read c.args.gathered was.0 was.1,
      read_next c.args.gathered was.0 c.statements.reading c.in-Some.statement c.statements.statements.reading c.next.new.self.reading (reading_of c.args.text.now)
          was.1 gives.first c.in-Ok.ensures.no_fault was.2,
    )

pub returns-clause-content : goal.returns-clause-content
returns-clause-content c =
    let was = c.statements.invariant in
    let ended : c.statements.statements.reading ≡ Ok [] = where_none (c.statements.statements.reading ≡ Ok []) _ c.in_ok-statement.field-0 c.in_default.not-Some c.in_ok-statement.ensures.next in (
      changes_in was.0,
      ended_with was.0 (reading_of c.args.text.now) c.statements.statements.reading (changes_in was.0) ended was.2 refl,
      c.in_ok-finish.ensures.content c.args.gathered was.0 was.1,
    )
