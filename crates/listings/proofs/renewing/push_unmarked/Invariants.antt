use Rattle.std.proofs.Common.{◌≡◌, ◌++◌, take}
use Rattle.listings.specs.Marks.{unmarked}
use Rattle.listings.proofs.renewing.push_unmarked.Given as goal

abbrev pub invariant-loop-id : goal.invariant-loop-id
invariant-loop-id l = l.now.items ≡ l.fn.now.items ++ unmarked l.marks (take l.id-index l.ids)
