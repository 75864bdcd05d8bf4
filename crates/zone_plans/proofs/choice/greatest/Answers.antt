use Rattle.std.proofs.Common.{◌∙◌, ap}
use Rattle.zone_plans.specs.Choices.{last_of}
use Rattle.zone_plans.proofs.choice.greatest.Goals as goal

pub returns : goal.returns
returns c = c.last.ensures ∙ ap last_of (c.deref.ensures.value ∙ c.in_ok-all.ensures.ids)
