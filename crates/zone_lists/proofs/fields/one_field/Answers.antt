use Rattle.std.proofs.Common.{◌∙◌, sym, ap}
use Rattle.std.specs.Option.{option_map}
use Rattle.zone_lists.specs.Fields.{trimmed}
use Rattle.zone_lists.proofs.FieldFacts.{one_field_at}
use Rattle.zone_lists.proofs.fields.one_field.Goals as goal

pub returns-in_default : goal.returns-in_default
returns-in_default c =
    sym (one_field_at _ (sym c.len.ensures ∙ c.if-len-ne1.false) ∙ ap (λ field. option_map trimmed field) (sym c.in_default.ensures.value))

pub returns : goal.returns
returns c =
    rw c.trimmed.ensures (
    sym (one_field_at _ (sym c.len.ensures ∙ c.if-len-ne1.false) ∙ ap (λ field. option_map trimmed field) (sym c.in-Some.ensures.value))
    )
