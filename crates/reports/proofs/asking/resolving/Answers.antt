use Rattle.std.proofs.Common.{◌∙◌, ap, sym, refl, subst}
use Rattle.lemmas.proofs.ResultFacts.{ok_so}
use Rattle.catalogue.proofs.IdFacts.{itself}
use Rattle.reports.specs.Found.{named_by, resolved_by}
use Rattle.reports.specs.Resolvers.{AreAmong}
use Rattle.reports.specs.declared.asking.By.{By}
use Rattle.reports.proofs.MissingFacts.{resolver_among}
use Rattle.reports.proofs.asking.resolving.Goals as goal

pub returns-in-Reason : goal.returns-in-Reason
returns-in-Reason c = ok_so c.by_reason.result c.by_reason.ensures (λ found is content rows are among.
    let hold = c.args.hold.now in
    let P : By → Type 0 = λ by. AreAmong (named_by by hold) c.args.asked.now in
    is content rows are (subst P c.in-Reason.is among hold.key.reason (rw (itself hold.key.reason) refl))
    ∙ ap (λ by. resolved_by by content rows hold) (sym c.in-Reason.is))

pub returns-in-ReasonOrResolver : goal.returns-in-ReasonOrResolver
returns-in-ReasonOrResolver c = ok_so c.by_either.result c.by_either.ensures (λ found is content rows are among.
    let hold = c.args.hold.now in
    let P : By → Type 0 = λ by. AreAmong (named_by by hold) c.args.asked.now in
    let all = subst P c.in-ReasonOrResolver.is among in
    is content rows are (all hold.key.reason (rw (itself hold.key.reason) refl)) (resolver_among hold c.args.asked.now all)
    ∙ ap (λ by. resolved_by by content rows hold) (sym c.in-ReasonOrResolver.is))
