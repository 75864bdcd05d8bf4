use Rattle.std.proofs.Common.{◌≡◌, List, ℕ, length, map}
use Rattle.std.specs.Vec.Iter.{into_iter_items}
use Rattle.listings.specs.Marks.{marked, unmarked}
use Rattle.listings.specs.Sights.{Sight}
use Rattle.listings.proofs.RenewFacts.{IsWoven}
use Rattle.listings.proofs.renewing.woven.Given as goal

abbrev pub invariant-loop-id : goal.invariant-loop-id
invariant-loop-id l = record {
  len : length l.entries.items ≡ l.id-index;
  woven : (f : List ℕ → Sight) → l.fn.kept.items ≡ map f (unmarked l.marks l.ids) → l.fn.found.items ≡ map f (marked l.marks l.ids)
      → IsWoven f l.marks l.ids l.id-index l.entries.items (into_iter_items l.kept) (into_iter_items l.found);
}
