use Rattle.std.proofs.Common.{◌∙◌}
use Rattle.lemmas.proofs.ResultFacts.{ok_so}
use Rattle.verdicts.specs.Candidates.{candidates_unless_there}
use Rattle.reports.proofs.asking.by_reason.Goals as goal

pub returns : goal.returns
returns c = ok_so c.copied.result c.copied.ensures (λ copy same content rows are asked. same ∙ c.answer_among.ensures (candidates_unless_there content rows) are asked)
