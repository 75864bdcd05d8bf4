use Rattle.std.proofs.Common.{◌≡◌, Some, map, ap, ◌∙◌}
use Rattle.sqlite.specs.Held.{state}
use Rattle.holddata.specs.HoldBook.{IsInKeyOrder}
use Rattle.sql_tables.specs.Rows.{hold_found}
use Rattle.sql_tables.specs.Stored.{tables_of}
use Rattle.sql_reads.proofs.PublishedFacts.{all_holds_shown}
use Rattle.sql_reads.proofs.TableFacts.{finds_from}
use Rattle.sql_reads.proofs.table.hold_row.holds.Goals as goal

pub returns-clause-finds : goal.returns-clause-finds
returns-clause-finds g c =
    let rows = c.in_ok-rows.rows in
    finds_from (state g.S.Store c.args.conn.now) (state g.S.Store c.select.new.conn) rows c.entries.result _ (λ stored holds. holds.items ≡ (tables_of stored).content.holds) c.in_ok-rows.ensures.finds
    (λ holds. map Some holds.items ≡ map hold_found c.as_slice.result.now) (λ holds. IsInKeyOrder holds.items) c.entries.ensures.said c.entries.ensures.ascend
    (λ stored whole holds shows said ordered. all_holds_shown stored rows.items holds.items ordered shows (said ∙ ap (map hold_found) c.as_slice.ensures.value))
