use Rattle.requests.proofs.TextFacts.{rest_after}
use Rattle.requests.proofs.text.cut.Goals as goal

pub returns-in-Some-clause-after : goal.returns-in-Some-clause-after
returns-in-Some-clause-after c =
    rest_after _ _ _ _ _ _ c.before_len-count.ensures c.split_at.ensures.back c.in-Some.ensures.cases.0
