use Rattle.requisites.specs.Sources.{HasSource}
use Rattle.verdicts.specs.Indices.{MarksAre}
use Rattle.listings.specs.SeenIndices.{IsThereAt}
use Rattle.listings.proofs.zone_nodes.listed_or_given.Given as goal

abbrev pub invariant-loop-index : goal.invariant-loop-index
invariant-loop-index l = MarksAre (IsThereAt l.zone l.members (HasSource l.sources)) l.index l.marks.items
