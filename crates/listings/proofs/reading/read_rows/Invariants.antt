use Rattle.std.proofs.Common.{◌≡◌, ◌++◌, List, ℕ, length, map}
use Rattle.std.specs.Slice.Iter.{chunks_rest}
use Rattle.catalogue.proofs.TellingFacts.{HasTold}
use Rattle.listings.specs.MemberRows.{AreRowsOf}
use Rattle.listings.specs.Sights.{Sight, sight_of}
use Rattle.listings.proofs.reading.read_rows.Given as goal

-- what was read so far, and what is left, are all; the rows are those of what was read
abbrev pub invariant-loop-run : goal.invariant-loop-run
invariant-loop-run g l = (done : List (List ℕ)) × (sights : List Sight) × (l.members ≡ done ++ chunks_rest l.run-iterator) × (length sights ≡ length done)
    × AreRowsOf l.zone l.members sights l.rows.candidates.items l.rows.needs l.rows.supersedes
    × HasTold g.P.Published.content_view l.fn.source l.source (λ content. sights ≡ map (sight_of content) done)
