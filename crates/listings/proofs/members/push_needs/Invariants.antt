use Rattle.std.proofs.Common.{◌≡◌, ◌++◌, take}
use Rattle.std.specs.List.{flat_map}
use Rattle.listings.specs.Sights.{all_needs}
use Rattle.listings.proofs.members.push_needs.Given as goal

abbrev pub invariant-loop-entry : goal.invariant-loop-entry
invariant-loop-entry l = l.all.items ≡ l.fn.all.items ++ flat_map all_needs (take l.entry-index l.entries)
