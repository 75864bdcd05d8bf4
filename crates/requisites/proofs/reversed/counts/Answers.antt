use Rattle.std.proofs.Common.{◌≡◌, ◌∙◌, ◌<◌, get_or, length, take, arith}
use Rattle.std.proofs.lemmas.Grind.{get_or_default_zero}
use Rattle.std.proofs.lemmas.List.{length-take-le}
use Rattle.requisites.proofs.ReversedFacts.{times_within}
use Rattle.requisites.proofs.reversed.counts.Goals as goal

pub overflow_add-index_mut : goal.overflow_add-index_mut
overflow_add-index_mut c =
    let i = c.loop-node.node-index in
    let b = get_or c.args.listed.now i 0 in
    let inside : b < length c.loop-node.counts.items = omega arith in
    let count : c.index_mut.result.now ≡ get_or c.loop-node.counts.items b 0 = c.index_mut.ensures.value ∙ get_or_default_zero c.loop-node.counts.items b c.index_mut.result.now inside in
    omega (arith, count, c.loop-node.invariant.times b (omega arith), times_within (take i c.args.listed.now) b, length-take-le i c.args.listed.now (omega arith))
