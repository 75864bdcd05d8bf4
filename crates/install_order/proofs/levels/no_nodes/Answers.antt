use Rattle.std.proofs.Common.{◌≡◌, ◌∙◌, ℕ, List, [], ◌∷◌, ap, length, subst, sym, arith}
use Rattle.requisites.specs.Nodes.{row}
use Rattle.install_order.specs.Levels.{lists_in}
use Rattle.std.proofs.lemmas.List.{length-append}
use Rattle.install_order.proofs.RowFacts.{lists_push, none_more}
use Rattle.install_order.proofs.levels.no_nodes.Goals as goal

pub loop-level-preserved : goal.loop-level-preserved
loop-level-preserved c =
    let nodes = c.loop-level.nodes.items in
    let own = c.new.result in
    let P : List (List ℕ) → Type 0 = λ l. (level : ℕ) → row l level ≡ [] in
    let grown = c.in_ok-push.ensures.items in (
      subst P (sym (ap lists_in grown ∙ lists_push nodes own c.new.ensures.items)) (none_more (lists_in nodes) c.loop-level.invariant.0),
      ap length grown ∙ (let len = c.loop-level.invariant.1 in omega (arith, length-append nodes (own ∷ []))),
    )
