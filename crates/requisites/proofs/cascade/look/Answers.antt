use Rattle.requisites.proofs.TestFacts.{from_true}
use Rattle.requisites.proofs.CascadeFacts.{ring_begins, ring_is_nearer, ring_read}
use Rattle.requisites.proofs.cascade.look.Goals as goal

pub close-requires-clause-ungiven : goal.close-requires-clause-ungiven
close-requires-clause-ungiven c =
    ring_read c.args.nodes.now c.args.around.now.superseders c.fall.new.marks c.args.opening.now.open.items c.deref-2.result.now c.ring_of-ring.result.now c.args.node c.deref-2.ensures.value
    c.requires.superseders c.fall.ensures.left c.requires.opens (from_true c.can_close.result c.can_close.ensures c.if-can_close.true)

pub close-requires-clause-opens : goal.close-requires-clause-opens
close-requires-clause-opens c =
    ring_begins c.args.nodes.now c.args.around.now.superseders c.fall.new.marks c.args.opening.now.open.items c.deref-2.result.now c.ring_of-ring.result.now c.args.node c.deref-2.ensures.value
    c.requires.superseders c.fall.ensures.left c.requires.opens (from_true c.can_close.result c.can_close.ensures c.if-can_close.true)

pub returns-in_ok-close-clause-nearer : goal.returns-in_ok-close-clause-nearer
returns-in_ok-close-clause-nearer c =
    ring_is_nearer c.args.opening.now.open.items c.deref-2.result.now c.close.new.opening.open.items c.args.node _ _ c.deref-2.ensures.value
    (from_true c.can_close.result c.can_close.ensures c.if-can_close.true) c.close.ensures.fewer
