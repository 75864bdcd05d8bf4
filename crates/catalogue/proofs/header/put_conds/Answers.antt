use Rattle.std.proofs.Common.{◌∙◌}
use Rattle.catalogue.proofs.HeaderFacts.{put_one}
use Rattle.catalogue.proofs.header.put_conds.Goals as goal

pub loop-need-preserved : goal.loop-need-preserved
loop-need-preserved c =
    put_one c.args.fmid c.args.needs.now c.loop-need.need-index c.need-item.result _ _ c.loop-need-test.true c.need-item.is c.in_ok-insert.ensures.keys
    ∙ c.loop-need.invariant
