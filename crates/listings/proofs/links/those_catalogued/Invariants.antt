use Rattle.std.proofs.Common.{◌≡◌, take}
use Rattle.std.specs.List.{filter}
use Rattle.listings.specs.Links.{is_catalogued_at}
use Rattle.listings.proofs.links.those_catalogued.Given as goal

abbrev pub invariant-loop-index : goal.invariant-loop-index
invariant-loop-index l = l.those.items ≡ filter (is_catalogued_at l.all) (take l.index-index l.indices)
