use Rattle.std.proofs.Common.{inl, ap, ◌∙◌}
use Rattle.log_lines.specs.Stamps.{stamp_text}
use Rattle.log_lines.proofs.stamp.time_word.Goals as goal

pub returns-in-Ok : goal.returns-in-Ok
returns-in-Ok c =
    let date = c.in-Ok.date in
    inl (date, c.in-Ok.ensures.value ∙ c.as_secs.ensures, c.stamp_at.ensures ∙ ap (λ n. stamp_text date.parts n) c.subsec_millis.ensures)
