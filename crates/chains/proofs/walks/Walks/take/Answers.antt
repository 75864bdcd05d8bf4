use Rattle.std.proofs.Common.{◌≡◌, ◌∙◌, ◌<◌, length, get_or, arith, sym}
use Rattle.std.proofs.lemmas.Grind.{get_or_default_zero}
use Rattle.chains.proofs.WalkingFacts.{taken_before, taken_now}
use Rattle.chains.proofs.walks.Walks.take.Goals as goal
use Rattle.chains.proofs.walks.Walks.take.Goals.{else-index-len-via-then-index-len+else-index-turn, else-index-len-via-else-index-len}

pub returns-in_ok-push : goal.returns-in_ok-push
returns-in_ok-push c =
    let inside : c.args.index < length c.args.self.now.seen.items = omega arith in
    taken_now c.args.turn c.args.index c.args.self.now.seen.items c.args.self.now.order.items c.push.new.self.items inside c.in_ok-push.ensures.items

pub returns-else-index-len : goal.returns-else-index-len
returns-else-index-len c = elim c.else-index-len.branch [
  | else-index-len-via-then-index-len+else-index-turn w ↦
      let inside : c.args.index < length c.args.self.now.seen.items = omega arith in
      let here : w.index.result.now ≡ get_or c.args.self.now.seen.items c.args.index 0 =
      w.index.ensures ∙ get_or_default_zero c.args.self.now.seen.items c.args.index w.index.result.now inside in
      taken_before c.args.turn c.args.index c.args.self.now.seen.items c.args.self.now.order.items (λ within. sym here ∙ w.if-index-turn.false)
  | else-index-len-via-else-index-len w ↦
      taken_before c.args.turn c.args.index c.args.self.now.seen.items c.args.self.now.order.items (λ within. absurd (omega arith))
]
