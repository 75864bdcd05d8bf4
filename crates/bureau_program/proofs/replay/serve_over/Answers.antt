use Rattle.std.proofs.Common.{ap, subst, sym}
use Rattle.std.proofs.lemmas.Result.{IfOk-weaker}
use Rattle.bureau_store.specs.Tables.{opened}
use Rattle.bureau_sql.specs.SqlView.{IsOurStore, sql_view}
use Rattle.sqlite_trees.specs.View.{doubt}
use Rattle.sqlite.specs.Held.{state}
use Rattle.sqlite.specs.State.{HasCleanDisk}
use Rattle.bureau_program.proofs.ReplayFacts.{not_made}
use Rattle.bureau_program.proofs.replay.serve_over.Goals as goal

pub returns-clause-served : goal.returns-clause-served
unfolding doubt
returns-clause-served g c = λ always rights.
    let over = g.S.Store in
    let this = opened c.args.rows.now in
    let store = sym (ap (λ parts. parts.store) c.new-bureau.ensures) in
    let judge = sym (ap (λ parts. parts.judge) c.new-bureau.ensures) in
    let made = c.in-Ok.ensures in
    let clean : HasCleanDisk (state over c.init.new.conn) = ap doubt (always _) in
    let ours = subst (IsOurStore over) store (c.over.ensures.ours (made.opened clean).0 (made.ours clean)) in
    let stands = subst (λ at. (sql_view over).stands at this) store (subst (λ tables. (sql_view over).stands c.over.result tables) (made.tables clean) c.over.ensures.tables) in
    let right = subst (λ at. g.J.Judge.is_right at this.content) judge (rights this.content) in
    IfOk-weaker c.serve_files.result _ _ (λ written tells. tells.told ours (ap doubt (always _)) this (stands, right)) c.serve_files.ensures.served

pub returns-in-Err-clause-fault : goal.returns-in-Err-clause-fault
unfolding doubt
returns-in-Err-clause-fault g c = λ always new. not_made (state g.S.Store c.args.conn) c.in-Err.fault c.of_store.result (ap doubt (always _)) new c.in-Err.ensures.cause c.of_store.ensures

pub returns-clause-fault : goal.returns-clause-fault
returns-clause-fault g c = λ always new. c.serve_files.ensures.fault
