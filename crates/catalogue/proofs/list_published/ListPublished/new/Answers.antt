use Rattle.std.proofs.Common.{refl, sym, subst}
use Rattle.std.specs.List.Sorted.{IsStrictlySortedBy}
use Rattle.holddata.specs.HoldBook.{IsInKeyOrder}
use Rattle.std.specs.Map.{values_of}
use Rattle.catalogue.specs.Content.{ids_in}
use Rattle.catalogue.specs.Ids.{Ascend}
use Rattle.catalogue.specs.ListPublished.{IsKeyed}
use Rattle.catalogue.proofs.list_published.ListPublished.new.Goals as goal

pub invariant_of-result : goal.invariant_of-result
unfolding IsStrictlySortedBy
invariant_of-result c = record {
  ordered = c.new.ensures.ordered;
  keyed = subst IsKeyed (sym c.new.ensures.empty) refl;
  index = λ id. rw (c.new.ensures.empty, c.new-2.ensures.empty) refl;
  in_key_order = subst IsInKeyOrder (sym c.new-3.ensures) tt;
}

pub returns-clause-in_order : goal.returns-clause-in_order
unfolding IsStrictlySortedBy
returns-clause-in_order c = record {
  sysmods = subst (λ es. Ascend (ids_in (values_of es))) (sym c.new.ensures.empty) tt;
  holds = subst IsInKeyOrder (sym c.new-3.ensures) tt;
}
