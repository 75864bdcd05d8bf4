use Rattle.std.proofs.Common.{◌∙◌, ap, rules, sym, Ok}
use Rattle.zone_lists.proofs.OwnFaultFacts.{first_of_zone}
use Rattle.zone_lists.specs.Lists.{records_of}
use Rattle.zone_lists.proofs.RowFacts.{each_row, rows_ascend}
use Rattle.zone_lists.proofs.zones.zone_rows.Goals as goal

pub returns-clause-rows : goal.returns-clause-rows
returns-clause-rows c =
    let read = c.in_ok-list.ensures.entries in
    read.2 ∙ ap (λ rows. Ok rows) (sym (c.in_ok-rows.ensures.rows ∙ read.1.listed))

pub returns-clause-ascending : goal.returns-clause-ascending
returns-clause-ascending c =
    rows_ascend c.in_ok-list.list.states.entries c.in_ok-rows.rows.items c.in_ok-rows.ensures.rows c.in_ok-rows.ensures.ascending

pub returns-clause-each : goal.returns-clause-each
returns-clause-each c = each_row (records_of c.args.text.now) c.in_ok-rows.rows.items (returns-clause-rows c)

pub returns-in_err-list-clause-first : goal.returns-in_err-list-clause-first
returns-in_err-list-clause-first c =
    let told = first_of_zone (records_of c.args.text.now) c.in_err-list.field-0.0 c.in_err-list.ensures.fault in
    search rules
