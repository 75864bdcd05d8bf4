use Rattle.std.proofs.Common.{◌∙◌, ap}
use Rattle.std.specs.List.{slice_get}
use Rattle.reports.proofs.ResolverFacts.{get_mapped}
use Rattle.reports.proofs.among.status_among.Goals as goal

pub returns-in-Some : goal.returns-in-Some
returns-in-Some c =
    λ f are among. c.status_at.ensures (f c.args.id.now) (ap (λ statuses. slice_get statuses c.in-Some.at) are ∙ get_mapped f c.args.asked.now c.in-Some.at c.args.id.now c.in-Some.ensures.index)
