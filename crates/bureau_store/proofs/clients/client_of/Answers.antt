use Rattle.std.proofs.Common.{◌∙◌, ap}
use Rattle.std.specs.Option.{unwrap_or}
use Rattle.bureau_store.specs.Lists.{nothing_sent}
use Rattle.bureau_store.proofs.TableFacts.{lookup_named}
use Rattle.bureau_store.proofs.clients.client_of.Goals as goal

pub returns : goal.returns
returns c = ap (λ found. unwrap_or found nothing_sent) (c.get.ensures.value ∙ lookup_named c.args.name.now c.args.clients.now.entries)
