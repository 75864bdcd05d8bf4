use Rattle.std.proofs.Common.{◌≡◌, length}
use Rattle.requisites.specs.Sources.{HasSource}
use Rattle.supersede.specs.Giving.{is_candidate}
use Rattle.catalogue.proofs.TellingFacts.{HasTold}
use Rattle.verdicts.specs.Indices.{id_at, MarksAre}
use Rattle.listings.specs.Marks.{IsAtHand}
use Rattle.chains.proofs.candidates.wanted_candidates.Given as goal

abbrev pub invariant-loop-index : goal.invariant-loop-index
invariant-loop-index g l = record {
  has_told : HasTold g.P.Published.content_view l.fn.source l.source
      (λ content. IsAtHand content l.listing l.marks → MarksAre (λ p mark. HasSource l.wanted p → mark ≡ is_candidate content l.zone (id_at l.ids p)) l.index l.are.items);
  len : length l.are.items ≡ l.index;
}
