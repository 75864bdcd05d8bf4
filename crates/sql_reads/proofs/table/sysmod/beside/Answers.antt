use Rattle.std.proofs.Common.{sym}
use Rattle.sqlite.specs.Held.{state}
use Rattle.sql_reads.proofs.TableFacts.{finds_on, then_refused}
use Rattle.sql_reads.proofs.table.sysmod.beside.Goals as goal

pub returns-in-Ok-clause-finds : goal.returns-in-Ok-clause-finds
returns-in-Ok-clause-finds g c =
    finds_on (state g.S.Store c.args.conn.now) (state g.S.Store c.read_list.new.conn) (state g.S.Store c.read_list-2.new.conn) c.in_ok-conds.conds c.in-Ok.sup (c.in_ok-conds.conds, c.in-Ok.sup) _ _ _
    c.in_ok-conds.ensures.finds c.in-Ok.ensures.finds (λ stored whole conds sup. λ i. record { conds = sym conds i; sup = sym sup i })

pub returns-in-Err-clause-finds : goal.returns-in-Err-clause-finds
returns-in-Err-clause-finds g c =
    then_refused (state g.S.Store c.args.conn.now) (state g.S.Store c.read_list.new.conn) (state g.S.Store c.read_list-2.new.conn) c.in_ok-conds.conds c.in-Err.fault _ _ _
    c.in_ok-conds.ensures.finds c.in-Err.ensures.finds
