use Rattle.std.proofs.Common.{◌≡◌, ◌||◌, ◌∙◌, rules}
use Rattle.std.specs.List.{list_any}
use Rattle.zone_lists.specs.Installed.{is_installed, is_listed}
use Rattle.supersede.proofs.GivingFacts.{there_by_givers}
use Rattle.supersede.proofs.LeadingFacts.{there_leads}
use Rattle.supersede.proofs.presence.there.Goals as goal

pub returns-then-listed-clause-there : goal.returns-then-listed-clause-there
returns-then-listed-clause-there c = search rules

pub returns-then-listed-clause-leads : goal.returns-then-listed-clause-leads
returns-then-listed-clause-leads c = λ content are. there_leads content c.args.zone.now c.args.id.now _ (returns-then-listed-clause-there c content are)

pub returns-else-listed-clause-there : goal.returns-else-listed-clause-there
returns-else-listed-clause-there c =
    λ content are.
    let told : c.is_any_installed.result ≡ (is_listed c.args.zone.now c.args.id.now || list_any (λ giver. is_installed c.args.zone.now giver) c.args.givers.now) = search rules in
    told ∙ there_by_givers content c.args.zone.now c.args.id.now c.args.givers.now are

pub returns-else-listed-clause-leads : goal.returns-else-listed-clause-leads
returns-else-listed-clause-leads c = λ content are. there_leads content c.args.zone.now c.args.id.now _ (returns-else-listed-clause-there c content are)
