use Rattle.verdicts.specs.Indices.{AreIndicesOf, RowsAre}
use Rattle.listings.specs.ListedRows.{sight_placed}
use Rattle.listings.specs.Places.{place_at}
use Rattle.listings.proofs.listed_rows.always_needs.Given as goal

abbrev pub invariant-loop-index : goal.invariant-loop-index
invariant-loop-index l = RowsAre (λ p indices. AreIndicesOf l.members (sight_placed l.entries (place_at l.listed p)).needs indices) l.index l.needs
