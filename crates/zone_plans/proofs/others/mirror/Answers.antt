use Rattle.std.proofs.Common.{arith}
use Rattle.zone_plans.proofs.others.mirror.Goals as goal

pub returns-then-node-len : goal.returns-then-node-len
returns-then-node-len c = omega (arith, c.if-node-len.true)

pub returns-else-node-len : goal.returns-else-node-len
returns-else-node-len c = omega (arith, c.if-node-len.false)
