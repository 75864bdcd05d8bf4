use Rattle.std.proofs.Common.{◌≡◌, ◌++◌, take}
use Rattle.flat_content.specs.Links.{links_to}
use Rattle.flat_content.proofs.links.push_links.Given as goal

-- the links to the ids so far
abbrev pub invariant-loop-superseded : goal.invariant-loop-superseded
invariant-loop-superseded l = l.links.items ≡ l.fn.links.items ++ links_to (take l.superseded-index l.sup) l.superseder
