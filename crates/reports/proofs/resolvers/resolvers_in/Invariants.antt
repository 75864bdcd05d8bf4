use Rattle.std.proofs.Common.{◌≡◌, take}
use Rattle.std.specs.List.{flat_map}
use Rattle.catalogue.specs.Ids.{in_order}
use Rattle.reports.specs.Found.{FoundLists}
use Rattle.reports.proofs.resolvers.resolvers_in.Given as goal

abbrev pub invariant-loop-one : goal.invariant-loop-one
invariant-loop-one l = l.ids.keys ≡ in_order (flat_map (λ (one : FoundLists). one.ids) (take l.one-index l.found))
