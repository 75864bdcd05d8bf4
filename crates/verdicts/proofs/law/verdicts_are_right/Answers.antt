use Rattle.verdicts.proofs.StatusFacts.{right_status}
use Rattle.verdicts.proofs.VerdictFacts.{found_verdict, verdict_is}
use Rattle.verdicts.proofs.law.verdicts_are_right.Goals as goal

pub returns : goal.returns
returns c = record {
  status = λ content rows id. right_status content rows id;
  verdict = λ content rows id. found_verdict content rows id;
  alone = λ content rows id judged is. verdict_is content rows id judged is;
}
