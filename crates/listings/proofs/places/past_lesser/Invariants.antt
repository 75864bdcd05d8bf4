use Rattle.listings.specs.Places.{AreLesser}
use Rattle.listings.proofs.places.past_lesser.Given as goal

abbrev pub invariant-loop-index : goal.invariant-loop-index
invariant-loop-index l = AreLesser l.ids l.index l.id
