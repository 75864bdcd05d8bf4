use Rattle.std.proofs.Common.{◌≡◌, length}
use Rattle.zone_plans.proofs.choice.known_of.Given as goal

abbrev pub invariant-loop-hold : goal.invariant-loop-hold
invariant-loop-hold l = (length l.all.items ≡ length l.climb.ids.items) × (length l.received.items ≡ length l.climb.ids.items)
