use Rattle.verdicts.proofs.GoodFacts.{good_both_ways}
use Rattle.verdicts.proofs.law.good_is_planned.Goals as goal

pub returns : goal.returns
returns c = λ content rows id. good_both_ways content rows id
