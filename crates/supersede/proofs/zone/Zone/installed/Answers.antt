use Rattle.std.proofs.Common.{◌∙◌, ap, sym}
use Rattle.supersede.proofs.ZoneFacts.{installed_by_state, is_in}
use Rattle.supersede.proofs.zone.Zone.installed.Goals as goal

pub returns-in-Some : goal.returns-in-Some
returns-in-Some c =
    rw (← c.self.view_is) (
    c.is_installed.ensures ∙ ap is_in (sym c.in-Some.is ∙ c.state_in.ensures) ∙ rw c.deref.ensures.value (installed_by_state c.self.inside.rows.items c.args.id.now c.self.invariant)
    )

pub returns-in-None : goal.returns-in-None
returns-in-None c =
    rw (← c.self.view_is) (
    ap is_in (sym c.in-None.is ∙ c.state_in.ensures) ∙ rw c.deref.ensures.value (installed_by_state c.self.inside.rows.items c.args.id.now c.self.invariant)
    )
