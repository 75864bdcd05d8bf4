use Rattle.file_reports.proofs.GatheringFacts.{all_gathered}
use Rattle.file_reports.proofs.gathering.Reading.finish.Goals as goal

pub returns-clause-content : goal.returns-clause-content
returns-clause-content c old all is =
    all_gathered old all c.args.self c.in_ok-changes.changes.items c.in_ok-with.field-0 is c.in_ok-changes.ensures.changes c.in_ok-with.ensures
