use Rattle.std.proofs.Common.{◌≡◌, ◌++◌, map}
use Rattle.listings.specs.Marks.{sight_seen}
use Rattle.listings.proofs.listing.push_entries.Given as goal

abbrev pub invariant-loop-seen : goal.invariant-loop-seen
invariant-loop-seen l = l.entries.items ≡ l.fn.entries.items ++ map sight_seen l.yielded
