use Rattle.std.proofs.Common.{◌≡◌, [], ◌∷◌, false, subst}
use Rattle.std.specs.List.{list_any}
use Rattle.sqlite.specs.Held.{state}
use Rattle.sqlite.specs.declared.error.Error.{Error}
use Rattle.sql_tables.specs.Changes.{coming}
use Rattle.sql_tables.specs.Stored.{of_table}
use Rattle.sql_tables.specs.Writing.{Changes}
use Rattle.sql_writes.specs.Excused.{Takes}
use Rattle.sql_writes.proofs.TakeFacts.{takes_alone}
use Rattle.sql_writes.proofs.insert.joined.Goals as goal

pub rows-requires : goal.rows-requires
rows-requires g c = record { count = g.met.T.Joined.one; means = c.insertion.ensures }

pub returns-clause-changes : goal.returns-clause-changes
returns-clause-changes g c =
    subst (λ row. Changes {Answer = Unit {0}} {Fault = Error} (state g.S.Store c.args.tx.now.conn.now) (state g.S.Store c.rows.new.tx.conn.now) c.rows.result (coming (of_table g.T.Table.rows g.T.Table.with_rows) (row ∷ [])))
    (c.in_ok-joined.ensures.row c.args.key.now) c.rows.ensures.changes

pub returns-clause-takes : goal.returns-clause-takes
returns-clause-takes g c short =
    takes_alone _ _ _ _
    (subst (λ has. Takes {Answer = Unit {0}} (state g.S.Store c.args.tx.now.conn.now) (state g.S.Store c.rows.new.tx.conn.now) c.rows.result 1 (λ stored. (list_any has (g.T.Table.rows stored) ≡ false) × Unit {0}))
    (g.met.T.Joined.alone c.args.key.now _) (c.rows.ensures.takes (c.in_ok-joined.ensures.short short, tt)))
