use Rattle.std.proofs.Common.{◌≡◌, ℕ, Bool, [], ◌∷◌, ◌++◌, ◌∙◌, map, ap, sym, arith}
use Rattle.std.specs.Prelude.{not}
use Rattle.std.specs.List.{range_with_len}
use Rattle.std.proofs.lemmas.List.FromFn.{map-range_with_len_more}
use Rattle.install_order.specs.Left.{is_outdone, left_in}
use Rattle.install_order.proofs.LeftFacts.{left_are}
use Rattle.install_order.proofs.leaving.left_marks.Goals as goal

pub loop-node-preserved : goal.loop-node-preserved
loop-node-preserved c =
    let node = c.loop-node.node in
    let f : ℕ → Bool = λ p. not (is_outdone c.args.givers.now p) in
    c.in_ok-push.ensures.items
    ∙ ap (λ l. l ++ not c.is_outdone.result ∷ []) c.loop-node.invariant
    ∙ ap (λ b. map f (range_with_len 0 node) ++ not b ∷ []) c.is_outdone.ensures
    ∙ sym (map-range_with_len_more f 0 node node (omega arith))

pub returns-clause-left : goal.returns-clause-left
returns-clause-left c =
    let givers = c.args.givers.now in
    let end : c.loop-node.node ≡ c.args.len = omega arith in
    left_are givers c.args.len c.loop-node.left.items (c.loop-node.invariant ∙ ap (λ n. left_in givers n) end)
