use Rattle.std.proofs.Common.{◌∙◌}
use Rattle.bureau_store.proofs.TableFacts.{lookup_named}
use Rattle.bureau_store.proofs.kept.zone_of.Goals as goal

pub returns : goal.returns
returns c = c.get.ensures.value ∙ lookup_named c.args.zone.now c.args.zones.now.entries
