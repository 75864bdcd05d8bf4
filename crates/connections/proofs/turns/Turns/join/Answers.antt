use Rattle.std.proofs.Common.{◌≡◌, map, subst, OnErr, OnOk}
use Rattle.connections.specs.Fair.{Joins, waits_of}
use Rattle.connections.proofs.FairFacts.{joined_err, joined_ok}
use Rattle.connections.proofs.turns.Turns.join.Goals as goal

pub returns-in-Some-clause-joins : goal.returns-in-Some-clause-joins
returns-in-Some-clause-joins c =
    subst (λ q. OnOk c.join_at.result (Joins c.args.caller.now c.args.slot q (map waits_of c.join_at.new.callers.items))) c.self.view_is
    (joined_ok c.join_at.result c.self.inside.callers.items c.join_at.new.callers.items c.in-Some.at c.args.caller.now c.args.slot c.in-Some.ensures.some.0 c.in-Some.ensures.some.1 c.in-Some.ensures.some.2 c.join_at.ensures.more)

pub returns-in-Some-clause-same : goal.returns-in-Some-clause-same
returns-in-Some-clause-same c =
    subst (λ q. OnErr c.join_at.result (map waits_of c.join_at.new.callers.items ≡ q)) c.self.view_is
    (joined_err c.join_at.result c.self.inside.callers.items c.join_at.new.callers.items c.in-Some.at c.args.slot c.join_at.ensures.same)
