use Rattle.std.proofs.Common.{take}
use Rattle.std.specs.Fn.{FnReturnsAt}
use Rattle.std.specs.List.{AllByRecursion}
use Rattle.bureau_sql.proofs.fit.each.Given as goal

abbrev pub invariant-loop-item : goal.invariant-loop-item
invariant-loop-item g l = AllByRecursion (λ item. FnReturnsAt g.F.Fn l.show item tt) (take l.item-index l.items)
