use Rattle.std.proofs.Common.{◌∙◌, ap, is_some}
use Rattle.supersede.proofs.ZoneFacts.{listed_by_state}
use Rattle.supersede.proofs.zone.Zone.listed.Goals as goal

pub returns : goal.returns
returns c =
    rw (← c.self.view_is) (
    c.is_some.ensures ∙ ap (λ state. is_some state) c.state_in.ensures ∙ rw c.deref.ensures.value (listed_by_state c.self.inside.rows.items c.args.id.now)
    )
