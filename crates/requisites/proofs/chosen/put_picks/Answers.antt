use Rattle.std.proofs.Common.{◌∙◌, ◌++◌, ◌∷◌, [], get_or, take, ap, arith}
use Rattle.requisites.proofs.PickFacts.{picked_none, picked_more, picked_skip, picked_step, picked_listed, picked_left}
use Rattle.requisites.proofs.TestFacts.{from_none}
use Rattle.requisites.proofs.chosen.put_picks.Goals as goal
use Rattle.requisites.proofs.chosen.put_picks.Goals.{in-Some+in_ok-push, in_default}

pub loop-need-init : goal.loop-need-init
loop-need-init c = picked_left c.args.nodes.now [] [] c.clear.new.self.items c.clear.ensures.items (picked_none c.args.nodes.now)

pub loop-need-preserved : goal.loop-need-preserved
loop-need-preserved c =
    let nodes = c.args.nodes.now in
    let listed = c.needs_of-need-items.result.now in
    let i = c.loop-need.need-index in
    let need = get_or listed i 0 in
    let picks = c.loop-need.picks.items in
    picked_step nodes listed i c.match-pick.picks.items (omega arith)
    (elim c.match-pick.branch [
      | in-Some+in_ok-push w ↦
          picked_left nodes (take i listed ++ need ∷ []) (picks ++ w.in-Some.picked ∷ []) c.match-pick.picks.items
          (ap (λ v. v.items) w.picks-is ∙ w.in_ok-push.ensures.items)
          (picked_more nodes (take i listed) picks need w.in-Some.picked c.loop-need.invariant w.in-Some.ensures.some)
      | in_default w ↦
          picked_left nodes (take i listed ++ need ∷ []) picks c.match-pick.picks.items
          (ap (λ v. v.items) w.picks-is)
          (picked_skip nodes (take i listed) picks need c.loop-need.invariant (from_none c.pick.result w.in_default.is c.pick.ensures.none))
    ])

pub returns : goal.returns
returns c = picked_listed c.args.nodes.now c.args.node c.needs_of-need-items.result.now c.loop-need.need-index c.loop-need.picks.items c.needs_of-need-items.ensures (omega arith) c.loop-need.invariant
