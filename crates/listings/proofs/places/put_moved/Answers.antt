use Rattle.std.proofs.Common.{◌∙◌, ◌++◌, [], ap, sym}
use Rattle.std.proofs.lemmas.List.{append-nil}
use Rattle.std.specs.List.{cons_option}
use Rattle.listings.proofs.PlaceFacts.{moved_more}
use Rattle.listings.proofs.places.put_moved.Goals as goal
use Rattle.listings.proofs.places.put_moved.Goals.{in-Some+in_ok-push, in_default}

pub loop-index-preserved : goal.loop-index-preserved
loop-index-preserved c =
    let old = c.loop-index.indices.items in
    moved_more c.args.places.now c.args.row.now c.loop-index.index-index c.place_at.result old c.match-place_at.indices.items c.loop-index-test.true c.place_at.ensures c.loop-index.invariant (
    elim c.match-place_at.branch [
      | in-Some+in_ok-push w ↦ ap (λ v. v.items) w.indices-is ∙ w.in_ok-push.ensures.items ∙ ap (λ o. old ++ cons_option o []) (sym w.in-Some.is)
      | in_default w ↦ ap (λ v. v.items) w.indices-is ∙ sym (append-nil old) ∙ ap (λ o. old ++ cons_option o []) (sym w.in_default.is)
    ])
