use Rattle.std.proofs.Common.{◌≡◌, ◌∙◌, ◌++◌, ◌∷◌, [], ◌<◌, List, Option, ap, length, subst, arith, ℕ}
use Rattle.std.specs.List.{filter_map}
use Rattle.listings.specs.Places.{ArePlaces, place_at, row_at}
use Rattle.listings.proofs.SupFacts.{moved_on}
use Rattle.listings.proofs.supersedes.moved_supersedes.Goals as goal

pub loop-place-preserved : goal.loop-place-preserved
loop-place-preserved c = λ f ids are stand.
    let members = c.args.members.now in
    let superseders = c.args.superseders.now in
    let index = c.loop-place.place-index in
    let place = place_at c.args.listed.now index in
    let moved = c.in_ok-moved.moved.items in
    let indices = c.put_moved.new.indices.items in
    let as_many = stand.len in
    let test = c.loop-place-test.true in
    let here : index < length members = omega (arith, as_many, test) in
    let P : List (List ℕ) → Type 0 = λ l. ArePlaces l members (length l) moved in
    let is : indices ≡ filter_map (place_at moved) (row_at superseders.below place) =
    c.in_ok-put_moved.ensures
    ∙ ap (λ (l : List (Option ℕ)). filter_map (place_at l) c.row_at.result.now) c.deref.ensures.value
    ∙ ap (filter_map (place_at moved)) (c.row_at.ensures ∙ ap (λ (rows : List (List ℕ)). row_at rows place) c.below.ensures) in
    moved_on f ids members superseders.superseded.items superseders.below superseders.above moved c.requires.members are (subst P c.superseded.ensures c.in_ok-moved.ensures)
    index place c.loop-place.rows _ indices (stand.each index here) is (c.loop-place.invariant f ids are stand)
    (c.in_ok-push_row.ensures.rows ∙ ap (λ (row : List ℕ). c.loop-place.rows ++ row ∷ []) c.deref-in-loop-place.ensures.value)
