use Rattle.std.proofs.Common.{refl, rules}
use Rattle.connections.proofs.FairFacts.{none_next, there_is}
use Rattle.connections.proofs.turns.place.Goals as goal

pub returns-then-is_at-clause-some : goal.returns-then-is_at-clause-some
returns-then-is_at-clause-some c =
    let one = there_is c.args.callers.now.items c.loop-at.at (search rules) in
    (one.0, one.1, c.if-is_at.ensures.yes refl one.0 one.1)

pub loop-at-preserved : goal.loop-at-preserved
loop-at-preserved c = none_next c.args.callers.now.items c.loop-at.at c.args.caller.now (search rules) c.loop-at.invariant (c.if-is_at.ensures.no refl)
