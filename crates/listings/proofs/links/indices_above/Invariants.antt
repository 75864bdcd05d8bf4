use Rattle.std.proofs.Common.{◌-◌, ◌^◌}
use Rattle.listings.specs.Links.{IsAbove}
use Rattle.listings.specs.Gathered.{IsWalked}
use Rattle.listings.proofs.links.indices_above.Given as goal

abbrev pub invariant-loop-at : goal.invariant-loop-at
invariant-loop-at l = IsWalked (IsAbove l.above) l.index l.found.keys l.order.items l.at

abbrev pub decreases-loop-at : goal.decreases-loop-at
decreases-loop-at l = 2 ^ 64 - l.at
