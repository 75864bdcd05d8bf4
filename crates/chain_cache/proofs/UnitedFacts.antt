-- What the chosen plans of some ids have together, one plan after the other.
use Rattle.std.proofs.Common.{◌≡◌, ◌∙◌, ◌+◌, ◌<◌, ◌++◌, ◌∷◌, [], ℕ, List, get_or, length, take, ap, sym}
use Rattle.std.specs.BTreeSet.{insert_key}
use Rattle.std.specs.List.{flat_map}
use Rattle.std.proofs.lemmas.List.{flat_map_more, take_more}
use Rattle.std.proofs.lemmas.List.Sums.{fold-append}
use Rattle.zone_lists.specs.declared.zones.ZoneRow.{ZoneRow}
use Rattle.catalogue.specs.Content.{Content}
use Rattle.catalogue.specs.Ids.{id_cmp, in_order, put_among}
use Rattle.verdicts.specs.United.{plan_in, united}

-- the plan of one more id is put among those of the ids before it
united_push : (content : Content) (rows : List ZoneRow) (ids : List (List ℕ)) (id : List ℕ) → put_among (united content rows ids) (plan_in content rows id) ≡ united content rows (ids ++ id ∷ [])
united_push content rows ids id =
    sym (fold-append (insert_key id_cmp) [] (flat_map (plan_in content rows) ids) (plan_in content rows id))
    ∙ ap in_order (flat_map_more (plan_in content rows) [] ids id)

-- those up to an index, and the one at it
pub united_on : (content : Content) (rows : List ZoneRow) (ids : List (List ℕ)) (i : ℕ) (id : List ℕ) (old new plan : List (List ℕ)) → i < length ids → id ≡ get_or ids i id
    → old ≡ united content rows (take i ids) → new ≡ put_among old plan → plan ≡ plan_in content rows id → new ≡ united content rows (take (i + 1) ids)
united_on content rows ids i id old new plan below at so_far put is =
    put ∙ ap (put_among old) is ∙ ap (λ l. put_among l (plan_in content rows id)) so_far ∙ united_push content rows (take i ids) id
    ∙ ap (united content rows) (sym (take_more ids i id below ∙ ap (λ (x : List ℕ). take i ids ++ x ∷ []) (sym at)))
