use Rattle.std.proofs.Common.{◌∙◌}
use Rattle.holddata.proofs.CategoryFacts.{value_added}
use Rattle.holddata.proofs.category_values.category_set.Goals as goal

pub loop-value-preserved : goal.loop-value-preserved
loop-value-preserved c =
    value_added c.loop-value.set.keys c.insert.new.self.keys c.args.values.now c.loop-value.value-index _ c.loop-value-test.true c.in_ok-insert.ensures.keys ∙ c.loop-value.invariant
