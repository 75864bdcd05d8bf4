-- The answers of a judge, and the contents for which it stays right.
use Rattle.verdicts.specs.Verdicts.{Judged, good, held, lack}
use Rattle.verdicts.specs.declared.verdict.Status.{Status}
use Rattle.verdicts.specs.declared.verdict.Verdict.{Verdict}
use Rattle.verdicts.specs.declared.verdict.Verdict.TheVariants as verdict
use Rattle.verdicts.specs.declared.verdict.Status.TheVariants as status

-- a verdict as the plan, the need, or neither, that it holds
abbrev pub judged_by : Verdict → Judged
judged_by (verdict.Good plan) = good plan.items
judged_by (verdict.Held need) = held need
judged_by verdict.Lack = lack

-- a verdict without its plan or need
abbrev pub status_of : Judged → Status
status_of (good plan) = status.Good
status_of (held need) = status.Held
status_of lack = status.Lack
