use Rattle.std.specs.Borrow.{Bor}
use Rattle.holddata.specs.declared.hold.Hold.{Hold}
use Rattle.reports.specs.Found.{named_by}
use Rattle.reports.proofs.ResolverFacts.{named_more}
use Rattle.reports.proofs.resolvers.asked_in.Goals as goal

pub loop-hold-preserved : goal.loop-hold-preserved
loop-hold-preserved c =
    named_more (λ (hold : Bor Hold). named_by c.args.by hold.now) c.args.holds.now c.loop-hold.hold-index c.hold-item.result c.loop-hold.ids.keys c.put_named.new.ids.keys c.loop-hold-test.true c.hold-item.is
    c.loop-hold.invariant c.in_ok-put_named.ensures
