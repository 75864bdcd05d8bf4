use Rattle.std.proofs.Common.{◌∙◌}
use Rattle.catalogue.proofs.SourceFacts.{told_so}
use Rattle.chain_cache.proofs.SurveyFacts.{right_listed}
use Rattle.chain_cache.proofs.surveys.Surveys.read_listing.Goals as goal

pub returns-clause-right : goal.returns-clause-right
returns-clause-right g c =
    told_so c.in_ok-listing.ensures.listing (λ content is were.
    right_listed content c.args.self.now c.put_listing.new.self c.in_ok-listing.listing c.put_listing.ensures.listing (c.put_listing.ensures.marks ∙ c.in_ok-marks.ensures.items)
    c.put_listing.ensures.zones c.in_ok-listing.ensures.ascend is were)
