use Rattle.std.proofs.Common.{◌∙◌, refl, sym, ap}
use Rattle.std.specs.List.{list_any}
use Rattle.chains.specs.FrameIndices.{has_conds}
use Rattle.chains.proofs.NodeFacts.{frame_found, framed_found}
use Rattle.chains.proofs.frames.Frame.of.Goals as goal

pub invariant_of-result : goal.invariant_of-result
invariant_of-result c =
    framed_found c.args.found.entries c.in_ok-ids.ids.items c.deref.result.now c.deref-3.result.now c.in_ok-all.all.items c.deref-2.result.now c.deref-4.result.now
    c.in_ok-nodes.nodes.items c.in_ok-needs.field-0.above c.in_ok-ids.ensures.ids c.in_ok-all.ensures c.deref.ensures.value c.deref-2.ensures.value c.deref-3.ensures.value c.deref-4.ensures.value
    c.in_ok-ids.ensures.ascend c.requires c.in_ok-nodes.ensures c.in_ok-needs.field-0.needs c.is_any_conditional-conditional.result c.in_ok-needs.ensures.needs (c.is_any_conditional-conditional.ensures ∙ ap (list_any has_conds) c.deref-5.ensures.value)

pub returns-clause-frame : goal.returns-clause-frame
returns-clause-frame c = λ content start ordered is.
    frame_found c.args.found.entries c.in_ok-ids.ids.items c.deref.result.now c.deref-3.result.now c.in_ok-all.all.items c.deref-2.result.now c.deref-4.result.now
    c.in_ok-nodes.nodes.items c.in_ok-needs.field-0.above c.in_ok-ids.ensures.ids c.in_ok-all.ensures c.deref.ensures.value c.deref-2.ensures.value c.deref-3.ensures.value c.deref-4.ensures.value
    c.in_ok-ids.ensures.ascend c.requires c.in_ok-nodes.ensures c.in_ok-needs.field-0.supersedes c.in_ok-needs.ensures.supersedes _ refl refl content start ordered is

pub returns-clause-ids : goal.returns-clause-ids
returns-clause-ids c =
    let framed =
    framed_found c.args.found.entries c.in_ok-ids.ids.items c.deref.result.now c.deref-3.result.now c.in_ok-all.all.items c.deref-2.result.now c.deref-4.result.now
    c.in_ok-nodes.nodes.items c.in_ok-needs.field-0.above c.in_ok-ids.ensures.ids c.in_ok-all.ensures c.deref.ensures.value c.deref-2.ensures.value c.deref-3.ensures.value c.deref-4.ensures.value
    c.in_ok-ids.ensures.ascend c.requires c.in_ok-nodes.ensures c.in_ok-needs.field-0.needs c.is_any_conditional-conditional.result c.in_ok-needs.ensures.needs (c.is_any_conditional-conditional.ensures ∙ ap (list_any has_conds) c.deref-5.ensures.value) in
    sym framed.are ∙ c.in_ok-ids.ensures.ids
