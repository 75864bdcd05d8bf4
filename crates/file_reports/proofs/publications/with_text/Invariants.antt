use Rattle.std.proofs.Common.{◌≡◌}
use Rattle.mcs_reader.specs.ReadingOf.{reading_of}
use Rattle.catalogue.specs.Reading.{Begun, nothing_begun}
use Rattle.bureau.proofs.PublicationFacts.{published_from}
use Rattle.file_reports.specs.Gathering.{IsGathered}
use Rattle.file_reports.proofs.publications.with_text.Given as goal

-- all that was read is gathered but the open record, and what is left makes of it what the whole body publishes
abbrev pub invariant-statements : goal.invariant-statements
invariant-statements l =
    (all : Begun) × IsGathered l.fn.gathered all l.reading
    × (published_from all l.statements.reading ≡ published_from nothing_begun (reading_of l.text))

abbrev pub decreases-statements : goal.decreases-statements
decreases-statements l = l.statements.bytes
