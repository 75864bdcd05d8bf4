use Rattle.std.proofs.Common.{◌∙◌, ap}
use Rattle.lemmas.proofs.ResultFacts.{ok_so}
use Rattle.catalogue.specs.Ids.{put_among}
use Rattle.zone_plans.proofs.tops.ordered.Goals as goal

pub returns-clause-ids : goal.returns-clause-ids
returns-clause-ids c =
    ok_so c.listed.result c.listed.ensures.ids (λ list are. are ∙ c.in_ok-put_all.ensures ∙ ap (λ keys. put_among keys c.args.ids.now) c.new-found.ensures.empty)
