use Rattle.std.proofs.Common.{◌≡◌, ◌∙◌, true, ap, sym}
use Rattle.lemmas.proofs.ResultFacts.{ok_so, some_is}
use Rattle.supersede.specs.Giving.{is_there}
use Rattle.supersede.specs.Reach.{has}
use Rattle.verdicts.specs.Candidates.{candidates_unless_there}
use Rattle.reports.specs.Found.{unless_resolver_there}
use Rattle.reports.specs.Resolvers.{candidates_for}
use Rattle.reports.proofs.MissingFacts.{with_resolver}
use Rattle.reports.proofs.asking.unless_resolver_there.Goals as goal

pub returns : goal.returns
returns c = ok_so c.with_itself.result c.with_itself.ensures (λ found told content rows are among.
    let id = c.in-Some.resolver in
    let asked : has c.args.asked.now id ≡ true = some_is (λ resolver. has c.args.asked.now resolver ≡ true) c.args.resolver.now id c.in-Some.is among in
    let answered = c.answer_among.ensures (candidates_unless_there content rows) are asked in
    told ∙ with_resolver (λ ids. ids.items) c.answer_among.result.now id (is_there content rows id) (candidates_for content rows id) answered
    ∙ ap (unless_resolver_there content rows) (sym c.in-Some.is))
