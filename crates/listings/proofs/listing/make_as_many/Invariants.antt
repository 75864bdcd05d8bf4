use Rattle.std.proofs.Common.{◌≡◌, ◌≤◌, length}
use Rattle.listings.proofs.listing.make_as_many.Given as goal

abbrev pub invariant-loop : goal.invariant-loop
invariant-loop l = record {
  len : length l.entries.items ≡ l.counter;
  most : l.counter ≤ l.len;
  same : length l.fn.entries.items ≡ l.len → l.entries.items ≡ l.fn.entries.items;
}
