use Rattle.std.proofs.Common.{◌∙◌, ap, rules}
use Rattle.listings.proofs.RenewFacts.{found_passed, found_pushed}
use Rattle.listings.proofs.renewing.push_found.Goals as goal
use Rattle.listings.proofs.renewing.push_found.Goals.{then-is_found+in_ok-push, else-is_found}

pub loop-index-preserved : goal.loop-index-preserved
loop-index-preserved c = elim c.if-is_found.branch [
  | then-is_found+in_ok-push w ↦ λ f is.
      found_pushed f c.args.marks.now c.args.read.now c.loop-index.index c.index-marks-index.result is c.loop-index-test.true c.index-marks-index.is c.is_found.result c.is_found.ensures
      c.args.now.now.items c.loop-index.now.items (c.loop-index.invariant f is) (search (w.if-is_found.true, rules)) c.if-is_found.now.items (ap (λ v. v.items) w.now-is ∙ w.in_ok-push.ensures.items)
  | else-is_found w ↦ λ f is.
      ap (λ v. v.items) w.now-is
      ∙ found_passed f c.args.marks.now c.args.read.now c.loop-index.index c.index-marks-index.result is c.loop-index-test.true c.index-marks-index.is c.is_found.result c.is_found.ensures
      c.args.now.now.items c.loop-index.now.items (c.loop-index.invariant f is) (search (w.if-is_found.false, rules))
]
