use Rattle.std.proofs.Common.{◌≡◌, map, take}
use Rattle.flat_content.proofs.links.superseders.Given as goal

abbrev pub invariant-loop-link : goal.invariant-loop-link
invariant-loop-link l = l.ids.items ≡ map (λ link. link.superseder) (take l.link-index l.link-items)
