use Rattle.std.proofs.Common.{rules}
use Rattle.requisites.proofs.CascadeFacts.{looked_first}
use Rattle.requisites.proofs.cascade.cascade.Goals as goal

pub first-init : goal.first-init
first-init c = looked_first c.args.nodes.now c.args.marks.now c.in_ok-vec.field-0.items c.requires.left (search rules)
