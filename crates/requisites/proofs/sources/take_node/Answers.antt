use Rattle.std.proofs.Common.{arith, ◌≡◌, ◌∙◌, None, sym, ap, not}
use Rattle.requisites.specs.Sources.{source_of}
use Rattle.requisites.proofs.SpreadFacts.{taken_put, taken_skip, none_from_test, some_from_test}
use Rattle.requisites.proofs.sources.take_node.Goals as goal
use Rattle.requisites.proofs.sources.take_node.Goals.{else-node-sources-via-then-node-sources+else-is_none, else-node-sources-via-else-node-sources}

pub returns-in_ok-push : goal.returns-in_ok-push
returns-in_ok-push c =
    let none : source_of c.args.sources.now c.args.node ≡ None = sym c.source_at.ensures ∙ none_from_test c.source_at.result (c.is_none.ensures ∙ ap not c.if-is_none.true) in
    rw c.in_ok-push.ensures.items (taken_put c.args.source c.args.node c.args.sources.now c.args.work.now.items c.if-node-sources.true none)

pub returns-else-node-sources : goal.returns-else-node-sources
returns-else-node-sources c =
    taken_skip c.args.source c.args.node c.args.sources.now c.args.work.now.items
    (λ h. elim c.else-node-sources.branch [
      | else-node-sources-via-then-node-sources+else-is_none w ↦ some_from_test c.args.sources.now c.args.node w.source_at.result (sym w.source_at.ensures) (w.is_none.ensures ∙ ap not w.if-is_none.false)
      | else-node-sources-via-else-node-sources w ↦ absurd (omega arith)
    ])
