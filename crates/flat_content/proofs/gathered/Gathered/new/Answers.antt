use Rattle.std.proofs.Common.{sym, subst}
use Rattle.std.specs.List.Sorted.{IsStrictlySortedBy}
use Rattle.holddata.specs.HoldBook.{IsInKeyOrder}
use Rattle.flat_content.proofs.gathered.Gathered.new.Goals as goal

pub invariant_of-result : goal.invariant_of-result
unfolding IsStrictlySortedBy
invariant_of-result c = subst IsInKeyOrder (sym c.new-2.ensures) tt
