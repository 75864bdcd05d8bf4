use Rattle.std.proofs.Common.{ℕ, List, length, map}
use Rattle.listings.specs.SeenIndices.{IsSupSeen}
use Rattle.listings.specs.Places.{ArePlaces}
use Rattle.listings.specs.Sights.{Sight}
use Rattle.listings.specs.Superseders.{AreSuperseders}
use Rattle.listings.proofs.supersedes.moved_supersedes.Given as goal

abbrev pub invariant-loop-place : goal.invariant-loop-place
invariant-loop-place l = (f : List ℕ → Sight) (ids : List (List ℕ)) → AreSuperseders (map f ids) l.superseders.superseded.items l.superseders.below l.superseders.above
    → ArePlaces l.members ids (length l.members) l.listed → IsSupSeen f ids l.members l.place-index l.rows
