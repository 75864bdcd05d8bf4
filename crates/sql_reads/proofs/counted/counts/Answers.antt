use Rattle.std.proofs.Common.{[], length, refl, rules}
use Rattle.sqlite.specs.Held.{state}
use Rattle.sql_tables.specs.Stored.{tables_of}
use Rattle.sql_texts.specs.Reads as read
use Rattle.sql_reads.proofs.CountFacts.{sysmods_counted}
use Rattle.sql_reads.proofs.TableFacts.{finds_on, then_refused}
use Rattle.sql_reads.proofs.counted.counts.Goals as goal

pub returns-in-Ok-clause-finds : goal.returns-in-Ok-clause-finds
returns-in-Ok-clause-finds g c =
    finds_on (state g.S.Store c.args.conn.now) (state g.S.Store c.count.new.conn) (state g.S.Store c.hold_count.new.conn) c.in_ok-sysmods.sysmods c.in-Ok.holds (c.in_ok-sysmods.sysmods, c.in-Ok.holds) _ _ _
    (c.in_ok-sysmods.ensures.finds read.sysmod_count 0 [] (λ stored. length (tables_of stored).content.sysmods) c.sysmod_count.ensures refl sysmods_counted)
    c.in-Ok.ensures.finds (λ stored whole sysmods holds. (sysmods, holds))

pub returns-in_err-sysmods-clause-finds : goal.returns-in_err-sysmods-clause-finds
returns-in_err-sysmods-clause-finds g c =
    let found = c.in_err-sysmods.ensures.finds read.sysmod_count 0 [] (λ stored. length (tables_of stored).content.sysmods) c.sysmod_count.ensures refl sysmods_counted in
    search (rules, found, c.from_residual.ensures)

pub returns-in-Err-clause-finds : goal.returns-in-Err-clause-finds
returns-in-Err-clause-finds g c =
    then_refused (state g.S.Store c.args.conn.now) (state g.S.Store c.count.new.conn) (state g.S.Store c.hold_count.new.conn) c.in_ok-sysmods.sysmods c.in-Err.fault _ _ _
    (c.in_ok-sysmods.ensures.finds read.sysmod_count 0 [] (λ stored. length (tables_of stored).content.sysmods) c.sysmod_count.ensures refl sysmods_counted)
    c.in-Err.ensures.finds
