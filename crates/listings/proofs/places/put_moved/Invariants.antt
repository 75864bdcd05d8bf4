use Rattle.std.proofs.Common.{◌≡◌, take}
use Rattle.std.specs.List.{filter_map}
use Rattle.listings.specs.Places.{place_at}
use Rattle.listings.proofs.places.put_moved.Given as goal

abbrev pub invariant-loop-index : goal.invariant-loop-index
invariant-loop-index l = l.indices.items ≡ filter_map (place_at l.places) (take l.index-index l.row)
