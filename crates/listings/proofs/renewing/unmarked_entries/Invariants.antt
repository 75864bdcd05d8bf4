use Rattle.std.proofs.Common.{◌≡◌, List, ℕ, drop, length, map, take}
use Rattle.std.specs.Vec.Iter.{into_iter_items, into_iter_len}
use Rattle.listings.specs.Marks.{SaysBut, unmarked}
use Rattle.listings.specs.Sights.{Sight}
use Rattle.listings.proofs.renewing.unmarked_entries.Given as goal

abbrev pub invariant-loop-index : goal.invariant-loop-index
invariant-loop-index l = record {
  len : into_iter_len l.index-iterator.iter ≡ length (into_iter_items l.index-iterator.iter);
  left : into_iter_items l.index-iterator.iter ≡ drop l.index-iterator.count l.fn.entries.items;
  kept : (f : List ℕ → Sight) → SaysBut f l.marks l.ids l.fn.entries.items → l.kept.items ≡ map f (unmarked l.marks (take l.index-iterator.count l.ids));
}
