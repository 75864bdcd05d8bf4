use Rattle.std.proofs.Common.{◌∙◌, sym}
use Rattle.zone_lists.proofs.ListFacts.{entry_at}
use Rattle.zone_lists.proofs.RowFacts.{row_added}
use Rattle.zone_lists.proofs.zones.ZoneStatesEntries.add.Goals as goal

pub returns-clause-added : goal.returns-clause-added
returns-clause-added c =
    let added = c.in_ok-add_row.ensures in
    λ earlier rows. (
      c.in_ok-row.row,
      (entry_at c.args.n _ c.in_ok-row.row (sym c.in_ok-row.ensures), rows.agrees c.in_ok-row.row ∙ added.same),
      row_added earlier c.args.self.now.states.entries c.add_row.new.states.entries c.in_ok-row.row rows added.added added.found.0 added.same,
    )
