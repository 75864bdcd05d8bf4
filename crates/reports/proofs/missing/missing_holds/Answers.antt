use Rattle.std.proofs.Common.{◌∙◌, ap}
use Rattle.lemmas.proofs.ResultFacts.{ok_so}
use Rattle.catalogue.proofs.SourceFacts.{told_so}
use Rattle.reports.specs.Found.{lent}
use Rattle.reports.proofs.MissingFacts.{holds_found}
use Rattle.reports.proofs.missing.missing_holds.Goals as goal

pub returns-clause-holds : goal.returns-clause-holds
returns-clause-holds g c =
    ok_so c.holds_by.result c.holds_by.ensures.holds (λ helds told. told_so told (λ content are right.
    holds_found content c.args.zone.now c.args.received.now c.args.patterns.now c.args.holds.now c.deref.result.now helds.items (ap lent c.deref.ensures.value ∙ c.in_ok-asked.ensures) (are right)))
