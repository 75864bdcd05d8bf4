use Rattle.std.proofs.Common.{◌≡◌, None, rules, subst, sym}
use Rattle.std.proofs.lemmas.List.Elements.{Contains-get_or}
use Rattle.std.specs.List.{Contains}
use Rattle.sql_reads.proofs.UnsaidFacts.{one_unsaid}
use Rattle.sql_reads.proofs.entry.each.Goals as goal

pub returns-in_default-clause-unsaid : goal.returns-in_default-clause-unsaid
returns-in_default-clause-unsaid g c device entries all =
    let found = g.E.Entry.found in
    let rows = c.args.rows.now in
    let row = c.row-item.result in
    let none : found row ≡ None = search rules in
    one_unsaid found rows row (subst (Contains rows) (sym c.row-item.is) (Contains-get_or rows c.loop-row.row-index row c.loop-row-test.true)) none entries all
