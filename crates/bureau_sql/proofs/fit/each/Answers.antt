use Rattle.std.proofs.Common.{refl}
use Rattle.std.specs.Fn.{FnReturnsAt}
use Rattle.bureau_sql.proofs.FitFacts.{all_so_far}
use Rattle.bureau_sql.proofs.fit.each.Goals as goal

pub loop-item-preserved : goal.loop-item-preserved
loop-item-preserved g c =
    all_so_far (λ item. FnReturnsAt g.F.Fn c.args.show item tt) c.args.items.now c.loop-item.item-index c.item-item.result c.loop-item-test.true c.item-item.is c.loop-item.invariant
    (record { shown = _; shows = refl; says = record { met = c.show.ensures } })
