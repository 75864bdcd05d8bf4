use Rattle.std.proofs.Common.{◌∙◌, ap}
use Rattle.catalogue.specs.Reading.{changes_in, part_of}
use Rattle.file_reports.proofs.GatheringFacts.{hold_gathered}
use Rattle.file_reports.proofs.gathering.Reading.hold.Goals as goal

pub returns-clause-read : goal.returns-clause-read
returns-clause-read c old all is =
    hold_gathered old all (part_of c.args.statement.now) c.args.statement.now c.args.self c.in_ok-changes.changes.items c.in_ok-with.field-0 c.requires is
    (c.in_ok-changes.ensures.changes ∙ ap changes_in c.in_ok-alone.ensures.read) c.in_ok-with.ensures
