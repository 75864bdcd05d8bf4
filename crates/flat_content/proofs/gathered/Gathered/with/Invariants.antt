use Rattle.std.proofs.Common.{◌≡◌, ◌++◌, List}
use Rattle.catalogue.specs.declared.change.Change.{Change}
use Rattle.catalogue.specs.Publication.{content_of}
use Rattle.flat_content.proofs.gathered.Gathered.with.Given as goal

-- what was gathered is the content that the changes so far leave
abbrev pub invariant-loop-change : goal.invariant-loop-change
invariant-loop-change l = (earlier : List Change) → l.fn.self ≡ content_of earlier → l.gathered ≡ content_of (earlier ++ l.yielded)
