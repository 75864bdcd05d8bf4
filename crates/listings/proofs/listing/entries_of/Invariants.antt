use Rattle.std.proofs.Common.{◌≡◌, ◌++◌, List, ℕ, map}
use Rattle.std.specs.Slice.Iter.{chunks_rest}
use Rattle.catalogue.proofs.TellingFacts.{HasTold}
use Rattle.listings.specs.Sights.{sight_of}
use Rattle.listings.proofs.listing.entries_of.Given as goal

-- what is read so far, and what is left, are all
abbrev pub invariant-loop-run : goal.invariant-loop-run
invariant-loop-run g l = (done : List (List ℕ)) × (l.ids ≡ done ++ chunks_rest l.run-iterator)
    × HasTold g.P.Published.content_view l.fn.source l.source (λ content. l.entries.items ≡ map (sight_of content) done)
