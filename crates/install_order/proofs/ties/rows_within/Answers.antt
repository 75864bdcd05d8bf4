use Rattle.std.proofs.Common.{◌≡◌, ◌++◌, ◌∷◌, [], ℕ, List, subst}
use Rattle.std.specs.List.{Contains}
use Rattle.install_order.proofs.TieFacts.{within_more}
use Rattle.install_order.proofs.ties.rows_within.Goals as goal

pub loop-node-preserved : goal.loop-node-preserved
loop-node-preserved c =
    let own = c.put_alike.new.own.items in
    let P : List ℕ → Type 0 = λ l. c.push_row.new.self ≡ c.loop-node.within ++ l ∷ [] in
    let Q : List ℕ → Type 0 = λ l. (q : ℕ) → Contains own q → Contains l q in
    within_more c.args.needs.now c.loop-node.within c.push_row.new.self c.loop-node.node own c.loop-node.invariant.0
    (subst P c.deref.ensures.value c.in_ok-push_row.ensures.rows)
    (subst Q c.row.ensures c.in_ok-put_alike.ensures)
    c.loop-node.invariant.1
