use Rattle.std.proofs.Common.{◌∙◌, ap, option_map}
use Rattle.lemmas.proofs.ResultFacts.{ok_so}
use Rattle.verdicts.specs.Candidates.{candidates_unless_there}
use Rattle.reports.specs.Found.{both_of}
use Rattle.reports.specs.Resolvers.{unless_there}
use Rattle.reports.proofs.asking.by_either.Goals as goal

pub returns : goal.returns
returns c = ok_so c.both_of.result c.both_of.ensures (λ all is content rows are asked resolver.
    is
    ∙ ap (λ reason. both_of reason (option_map (λ ids. ids.items) c.in_ok-by_resolver.by_resolver)) (c.answer_among-by_reason.ensures (candidates_unless_there content rows) are asked)
    ∙ ap (both_of (unless_there content rows c.args.reason.now)) (c.in_ok-by_resolver.ensures content rows are resolver))
