use Rattle.std.proofs.Common.{◌≡◌, ◌∙◌, List, Some, ap, refl, sym}
use Rattle.std.specs.Option.{option_map}
use Rattle.zone_lists.specs.declared.zones.ZoneRow.{ZoneRow}
use Rattle.bureau_sql.specs.Recent.{RowsRead}
use Rattle.bureau_sql.proofs.RecentFacts.{more_found_in}
use Rattle.bureau_sql.proofs.recent.Recent.keep_rows.Goals as goal

pub returns-clause-rows : goal.returns-clause-rows
returns-clause-rows c =
    let read : List ZoneRow → RowsRead = λ rows. record { client = c.args.client.now; zone = c.args.zone.now; rows = rows } in
    more_found_in (λ answer (read : RowsRead). (option_map (λ rows. rows.items) answer ≡ Some read.rows) × (read.client ≡ c.args.client.now) × (read.zone ≡ c.args.zone.now)) c.args.found.now
    c.self.inside.rows c.args.self.now.rows c.put.new.self (read c.in-Ok-from_slice.rows.items) c.in-Ok.answer (ap (λ it. it.rows) c.self.view_is) c.in-Ok.is
    (ap (option_map (λ rows. rows.items)) c.in-Some.is ∙ ap Some (sym (c.in-Ok-from_slice.ensures.items ∙ c.deref.ensures.value)), refl, refl) c.put.ensures
