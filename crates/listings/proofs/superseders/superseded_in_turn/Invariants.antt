use Rattle.std.proofs.Common.{◌≡◌, take}
use Rattle.std.specs.List.{flat_map}
use Rattle.listings.proofs.superseders.superseded_in_turn.Given as goal

abbrev pub invariant-loop-entry : goal.invariant-loop-entry
invariant-loop-entry l = l.ids.items ≡ flat_map (λ sight. sight.superseded) (take l.entry-index l.entries)
