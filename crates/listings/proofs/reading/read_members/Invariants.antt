use Rattle.std.proofs.Common.{◌≡◌, ◌++◌, List, ℕ, map}
use Rattle.std.specs.List.{flat_map}
use Rattle.std.specs.Slice.Iter.{chunks_rest}
use Rattle.catalogue.specs.Content.{ids_of}
use Rattle.catalogue.proofs.TellingFacts.{HasTold}
use Rattle.listings.specs.Sights.{all_needs, sight_of}
use Rattle.listings.proofs.reading.read_members.Given as goal

-- what was read so far, and what is left, are all; the needs of what was read are members
abbrev pub invariant-loop-run : goal.invariant-loop-run
invariant-loop-run g l = (ids : List (List ℕ)) × (done : List (List ℕ)) × (ids ≡ done ++ chunks_rest l.run-iterator)
    × HasTold g.P.Published.content_view l.fn.source l.source (λ content. (ids ≡ ids_of content) × (l.members.items ≡ ids ++ flat_map all_needs (map (sight_of content) done)))
