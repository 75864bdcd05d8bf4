use Rattle.std.proofs.Common.{◌≡◌, ◌++◌, List, ℕ, map, take}
use Rattle.catalogue.specs.Seen.{SeenLists}
use Rattle.listings.specs.Marks.{found_among}
use Rattle.listings.proofs.renewing.push_found.Given as goal

abbrev pub invariant-loop-index : goal.invariant-loop-index
invariant-loop-index l = (f : List ℕ → SeenLists) → l.read ≡ map f l.marks → l.now.items ≡ l.fn.now.items ++ found_among f (take l.index l.marks)
