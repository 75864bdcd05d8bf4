use Rattle.std.proofs.Common.{◌≡◌, length}
use Rattle.zone_plans.proofs.choice.mark_resolvers.Given as goal

abbrev pub invariant-loop-resolver : goal.invariant-loop-resolver
invariant-loop-resolver l = (length l.all ≡ length l.fn.all) × (length l.received ≡ length l.fn.received)
