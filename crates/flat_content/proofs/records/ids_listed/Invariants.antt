use Rattle.std.proofs.Common.{◌≡◌, map, take}
use Rattle.flat_content.proofs.records.ids_listed.Given as goal

abbrev pub invariant-loop-head : goal.invariant-loop-head
invariant-loop-head l = l.ids.items ≡ map (λ head. head.id) (take l.head-index l.heads)
