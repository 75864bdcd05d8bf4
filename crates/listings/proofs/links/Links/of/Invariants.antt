use Rattle.std.proofs.Common.{map}
use Rattle.verdicts.specs.Indices.{AreIndicesOf, RowsAre, list_at}
use Rattle.listings.proofs.links.Links.of.Given as goal

abbrev pub invariant-loop-index : goal.invariant-loop-index
invariant-loop-index l = record {
  needs : RowsAre (λ p indices. AreIndicesOf l.ids (list_at (map (λ g. g.entry.needs) l.all) p) indices) l.index l.needs;
  supersedes : RowsAre (λ p indices. AreIndicesOf l.ids (list_at (map (λ g. g.entry.superseded) l.all) p) indices) l.index l.supersedes;
  above : RowsAre (λ p indices. AreIndicesOf l.ids (list_at (map (λ g. g.above) l.all) p) indices) l.index l.above;
}
