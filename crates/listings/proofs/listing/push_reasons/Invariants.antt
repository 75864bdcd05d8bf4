use Rattle.std.proofs.Common.{◌≡◌, ◌++◌, take}
use Rattle.listings.specs.Sights.{reasons_in}
use Rattle.listings.proofs.listing.push_reasons.Given as goal

abbrev pub invariant-loop-hold : goal.invariant-loop-hold
invariant-loop-hold l = l.needs.items ≡ l.fn.needs.items ++ reasons_in (take l.hold-index l.holds)
