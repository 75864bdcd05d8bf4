use Rattle.std.proofs.Common.{◌∙◌, sym, arith}
use Rattle.std.specs.BTreeMap.{keys}
use Rattle.listings.proofs.WalkFacts.{asked_passes, found_key}
use Rattle.listings.proofs.found.next_unread.Goals as goal

pub loop-at-preserved : goal.loop-at-preserved
loop-at-preserved g c =
    let id = c.index-order-at.result in
    let here = found_key c.args.found.now.entries id (sym c.contains_key.ensures ∙ c.if-not-contains_key.false) in
    record {
      after = omega arith;
      read = λ before. asked_passes (keys c.args.found.now) c.args.order.now c.loop-at.at id c.loop-at-test.true c.index-order-at.is here (c.loop-at.invariant.read before);
    }
