use Rattle.lemmas.proofs.ResultFacts.{some_is}
use Rattle.catalogue.proofs.TellingFacts.{told_in_order}
use Rattle.chains.proofs.framing.frame_within.Goals as goal

pub returns-in_ok-of-in-Some-clause-frame : goal.returns-in_ok-of-in-Some-clause-frame
returns-in_ok-of-in-Some-clause-frame g c =
    let law = g.met.P.Published in
    told_in_order law.in_order (law.lawful.keeps _ _ c.in_ok-found.ensures.asks.keeps).goes (some_is _ _ _ c.in-Some.is c.in_ok-found.ensures.standing)
    (some_is _ _ _ c.in-Some.is c.in_ok-found.ensures.gathered) (λ content. c.in_ok-of-in-Some.ensures.frame content c.args.id.now)
