use Rattle.std.proofs.Common.{◌∙◌, ap}
use Rattle.plan_reports.specs.Tables as Spec
use Rattle.plan_reports.proofs.TableFacts.{text_more}
use Rattle.plan_reports.proofs.text.plan_text.Goals as goal

pub returns : goal.returns
returns c =
    text_more _ _ _ _ _ c.in_ok-extend_from_slice-5.ensures.items
    (text_more _ _ _ _ _ c.in_ok-extend_from_slice-4.ensures.items
    (text_more _ _ _ _ _ c.in_ok-extend_from_slice-3.ensures.items
    (text_more _ _ _ _ _ c.in_ok-extend_from_slice-2.ensures.items
    (text_more _ _ _ _ _ c.in_ok-extend_from_slice.ensures.items c.in_ok-text.ensures (c.deref.ensures.value ∙ c.in_ok-cause_table.ensures))
    (c.deref-2.ensures.value ∙ c.in_ok-heed_table.ensures))
    (c.deref-3.ensures.value ∙ c.in_ok-unresolved_table.ensures ∙ ap Spec.unresolved_table c.unresolved.ensures))
    (c.deref-4.ensures.value ∙ c.in_ok-held_table.ensures ∙ ap Spec.held_table c.held.ensures))
    (c.deref-5.ensures.value ∙ c.in_ok-blocked_table.ensures ∙ ap Spec.blocked_table c.blocked.ensures)
