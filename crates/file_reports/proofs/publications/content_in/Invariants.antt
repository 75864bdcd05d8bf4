use Rattle.std.proofs.Common.{◌≡◌, List, length, map}
use Rattle.std.specs.Vec.Iter.{into_iter_items, into_iter_len}
use Rattle.catalogue.specs.Publication.{content_of}
use Rattle.catalogue.specs.declared.change.Change.{Change}
use Rattle.file_reports.specs.Inputs.{content_published}
use Rattle.file_reports.proofs.InputFacts.{content_with}
use Rattle.file_reports.proofs.publications.content_in.Given as goal

-- the content of what was gathered and of the publications that are left is that of all
abbrev pub invariant-loop-index : goal.invariant-loop-index
invariant-loop-index l = record {
  len : into_iter_len l.index-iterator.iter ≡ length (into_iter_items l.index-iterator.iter);
  said : (earlier : List Change) × (l.gathered ≡ content_of earlier)
      × (content_published (map (λ body. body.items) l.fn.publications.items) ≡ content_with earlier l.index-iterator.count (map (λ body. body.items) (into_iter_items l.index-iterator.iter)));
}
