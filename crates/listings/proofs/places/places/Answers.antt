use Rattle.std.proofs.Common.{◌≡◌, ◌∙◌, ℕ, List, [], arith, sym, subst}
use Rattle.lemmas.proofs.ListFacts.{get_any}
use Rattle.verdicts.specs.Indices.{id_at}
use Rattle.listings.specs.Places.{AreLesser}
use Rattle.listings.proofs.PlaceFacts.{lesser_later, places_more}
use Rattle.listings.proofs.places.places.Goals as goal

pub past_lesser-next-requires : goal.past_lesser-next-requires
past_lesser-next-requires c =
    let from = c.args.from.now in
    let index = c.loop-id.id-index in
    let id = c.id-item.result in
    let at : id ≡ id_at from index = c.id-item.is ∙ get_any from index id [] c.loop-id-test.true in
    let P : List ℕ → Type 0 = λ x. AreLesser c.args.to.now c.loop-id.next x in
    subst P (sym at) (c.loop-id.invariant.lesser index (omega arith) c.loop-id-test.true)

pub loop-id-preserved : goal.loop-id-preserved
loop-id-preserved c =
    let from = c.args.from.now in
    let to = c.args.to.now in
    let index = c.loop-id.id-index in
    let id = c.id-item.result in
    let at : id ≡ id_at from index = c.id-item.is ∙ get_any from index id [] c.loop-id-test.true in
    let P : List ℕ → Type 0 = λ x. AreLesser to c.past_lesser-next.result x in
    record {
      so_far = places_more from to index id c.place_here.result c.loop-id.places.items _ at c.place_here.ensures c.loop-id.invariant.so_far c.in_ok-push.ensures.items;
      lesser = lesser_later from to index c.past_lesser-next.result c.requires.from (subst P at c.past_lesser-next.ensures.lesser);
    }
