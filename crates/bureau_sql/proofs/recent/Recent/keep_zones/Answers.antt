use Rattle.std.proofs.Common.{◌≡◌, ◌∙◌, ℕ, List, ap}
use Rattle.bureau_sql.specs.Recent.{ZonesRead}
use Rattle.bureau_sql.proofs.RecentFacts.{more_found_in}
use Rattle.bureau_sql.proofs.recent.Recent.keep_zones.Goals as goal

pub returns-clause-zones : goal.returns-clause-zones
returns-clause-zones c =
    let read : List (List ℕ × ℕ) → ZonesRead = λ zones. record { client = c.args.client.now; zones = zones } in
    more_found_in (λ answer (read : ZonesRead). read ≡ record { client = c.args.client.now; zones = answer.items }) c.args.found.now c.self.inside.zones c.args.self.now.zones c.put.new.self
    (read c.in-Ok-from_slice.zones.items) c.in-Ok.zones (ap (λ it. it.zones) c.self.view_is) c.in-Ok.is (ap read (c.in-Ok-from_slice.ensures.items ∙ c.deref.ensures.value)) c.put.ensures
