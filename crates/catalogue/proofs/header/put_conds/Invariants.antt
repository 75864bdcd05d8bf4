use Rattle.std.proofs.Common.{◌≡◌, drop}
use Rattle.catalogue.specs.Conditional.{put_conds, required_under}
use Rattle.catalogue.proofs.header.put_conds.Given as goal

-- what those to come put
abbrev pub invariant-loop-need : goal.invariant-loop-need
invariant-loop-need l = put_conds l.conds.keys (required_under l.fmid (drop l.need-index l.needs)) ≡ put_conds l.fn.conds.keys (required_under l.fmid l.needs)
