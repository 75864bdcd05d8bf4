use Rattle.std.proofs.Common.{List, ℕ, [], ◌∷◌, ◌++◌, ◌∙◌, ◌≡◌, ◌<◌, ap, get_or, length, subst, sym, map}
use Rattle.lemmas.proofs.ResultFacts.{ok_so}
use Rattle.catalogue.specs.declared.conditional.CondNeed.{CondNeed}
use Rattle.supersede.specs.Giving.{needs_where}
use Rattle.verdicts.specs.Indices.{AreIndexed, AreIndicesOf}
use Rattle.chains.specs.FrameIndices.{node_needs}
use Rattle.chains.specs.Frames.{ids_in}
use Rattle.chains.specs.declared.frames.FrameNode.{FrameNode}
use Rattle.chains.proofs.PlanFacts.{needs_more, unconditional_indexed}
use Rattle.chains.proofs.planning.zone_needs.Goals as goal

pub returns-then-not-is_conditional : goal.returns-then-not-is_conditional
returns-then-not-is_conditional c =
    let nodes = c.args.frame.now.nodes in
    let P : List (List ℕ) → Type 0 = λ rows. AreIndexed (ids_in nodes) (map (node_needs c.args.zone.now) nodes) rows in
    ok_so c.copy.result c.copy.ensures (λ rows same. subst P (sym same) (unconditional_indexed c.args.zone.now nodes _ (sym c.is_conditional.ensures ∙ c.if-not-is_conditional.true) c.needs.ensures))

pub loop-index-preserved : goal.loop-index-preserved
loop-index-preserved c =
    let L : List FrameNode → Type 0 = λ l. c.loop-index.index < length l in
    let node = c.node-item.result in
    let C : List CondNeed → Type 0 = λ conds. AreIndicesOf c.ids.result.now node.needs c.row-always.result.now → AreIndicesOf c.ids.result.now (node.needs ++ needs_where c.args.zone.now conds) c.put_needs_where.new.indices.items in
    let put = subst C c.as_slice.ensures.value (c.in_ok-put_needs_where.ensures node.needs) in
    let A : List FrameNode → Type 0 = λ l. c.node-item.result ≡ get_or l c.loop-index.index c.node-item.result in
    needs_more c.args.zone.now c.args.frame.now.nodes c.ids.result.now c.loop-index.index c.node-item.result c.row-always.result.now c.put_needs_where.new.indices.items c.needs-in-loop-index.result.now c.loop-index.needs _
    (subst L c.nodes-node-items.ensures.value c.loop-index-test.true) (subst A c.nodes-node-items.ensures.value c.node-item.is) c.ids.ensures.value c.needs-in-loop-index.ensures c.row-always.ensures put c.loop-index.invariant
    (c.in_ok-push_row.ensures.rows ∙ ap (λ (row : List ℕ). c.loop-index.needs ++ row ∷ []) c.deref.ensures.value)
