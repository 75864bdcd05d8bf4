use Rattle.std.proofs.Common.{◌≡◌, ◌++◌, ℕ, [], ◌∷◌, List, take, if◌then◌else◌}
use Rattle.std.specs.BTreeMap.{get}
use Rattle.std.specs.List.{list_any}
use Rattle.catalogue.specs.Ids.{id_cmp, same_id}
use Rattle.catalogue.specs.ListPublished.{listed}
use Rattle.catalogue.proofs.index.list_superseder.Given as goal

abbrev pub invariant-loop-superseded : goal.invariant-loop-superseded
invariant-loop-superseded l = (id : List ℕ) → listed (get id_cmp l.index id)
    ≡ listed (get id_cmp l.fn.index id) ++ (if list_any (same_id id) (take l.superseded-index l.superseded-items) then l.sysmod.id ∷ [] else [])
