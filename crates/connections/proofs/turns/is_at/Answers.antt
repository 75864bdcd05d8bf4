use Rattle.std.proofs.Common.{◌≡◌, ◌∙◌, ap, sym}
use Rattle.std.specs.Bool.{IsTrue}
use Rattle.connections.proofs.FairFacts.{is_lent}
use Rattle.connections.proofs.turns.is_at.Goals as goal

pub returns-clause-yes : goal.returns-clause-yes
returns-clause-yes c t one e =
    let at : c.index.result.now ≡ one = is_lent c.args.callers.now.items c.args.at one c.index.result.now e c.index.ensures in
    sym (ap (λ w. w.caller.items) at) ∙ sym c.as_slice.ensures.value ∙ c.is_same.ensures.0 t

pub returns-clause-no : goal.returns-clause-no
returns-clause-no c f one e q =
    let at : c.index.result.now ≡ one = is_lent c.args.callers.now.items c.args.at one c.index.result.now e c.index.ensures in
    let y : IsTrue c.is_same.result = c.is_same.ensures.1 (c.as_slice.ensures.value ∙ ap (λ w. w.caller.items) at ∙ q) in
    absurd (cc)
