use Rattle.std.proofs.Common.{◌∙◌, ap}
use Rattle.bureau_store.specs.Effect.{zone_dropped}
use Rattle.bureau_store.specs.Lists.{ClientTable, client_after}
use Rattle.bureau_store.specs.Tables.{Zones}
use Rattle.bureau_store.proofs.TableFacts.{remove_named}
use Rattle.bureau_store.proofs.kept.Client.drop_zone.Goals as goal

pub returns-clause-done : goal.returns-clause-done
returns-clause-done c =
    let with_zones : Zones → ClientTable = λ zones. record { last = c.args.last; zones = zones; received = c.self.inside.received.items } in
    ap with_zones (c.remove.ensures.entries ∙ remove_named c.args.zone.now c.self.inside.zones.entries)
    ∙ ap (λ (was : ClientTable). client_after (zone_dropped c.args.zone.now) c.args.last was) c.self.view_is
