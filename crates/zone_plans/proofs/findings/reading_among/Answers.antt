use Rattle.std.proofs.Common.{◌∙◌, List, ap}
use Rattle.std.specs.List.{slice_get}
use Rattle.reports.proofs.ResolverFacts.{get_mapped}
use Rattle.zone_plans.specs.Readings.{ReadingLists}
use Rattle.zone_plans.proofs.findings.reading_among.Goals as goal

pub returns-in-Some : goal.returns-in-Some
returns-in-Some c = λ f are among.
    c.reading_at.ensures (f c.args.id.now)
    (ap (λ (l : List ReadingLists). slice_get l c.in-Some.at) are ∙ get_mapped f c.args.ids.now c.in-Some.at c.args.id.now c.in-Some.ensures.index)
