use Rattle.std.proofs.Common.{◌∙◌, sym}
use Rattle.requisites.proofs.PickFacts.{pick_some, pick_lacks}
use Rattle.requisites.proofs.chosen.pick.Goals as goal

pub returns-clause-some : goal.returns-clause-some
returns-clause-some c = pick_some c.args.nodes.now c.args.resolution.now.good.items c.args.resolution.now.givers.items c.args.need c.requires (sym c.is_there.ensures ∙ c.if-is_there.false) (sym c.is_good.ensures ∙ c.if-is_good.false) c.giver.result (sym c.giver.ensures)

pub returns-clause-none : goal.returns-clause-none
returns-clause-none c = pick_lacks c.args.nodes.now c.args.resolution.now.good.items c.args.resolution.now.givers.items c.args.need c.requires c.giver.result (sym c.giver.ensures)
