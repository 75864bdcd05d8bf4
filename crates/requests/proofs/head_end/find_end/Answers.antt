use Rattle.std.proofs.Common.{sym, ◌∙◌}
use Rattle.requests.proofs.SearchFacts.{goes_on, ends, at_end}
use Rattle.requests.proofs.head_end.find_end.Goals as goal

pub returns-in-None-clause-found : goal.returns-in-None-clause-found
returns-in-None-clause-found c =
    let none = sym c.after.ensures ∙ c.in-None.is in
    sym (c.loop-i.invariant.same ∙ ends _ _ _ c.loop-i-test.true none)

pub loop-i-preserved : goal.loop-i-preserved
loop-i-preserved c =
    let next = sym c.after.ensures ∙ c.in-Some.is in
    record { same = c.loop-i.invariant.same ∙ goes_on _ _ _ _ c.loop-i-test.true next }

pub returns-clause-found : goal.returns-clause-found
returns-clause-found c = sym (c.loop-i.invariant.same ∙ at_end _ _ _ c.loop-i-test.false)
