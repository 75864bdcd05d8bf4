use Rattle.std.proofs.lemmas.Result.{IfErr-weaker}
use Rattle.sqlite.specs.Held.{state}
use Rattle.bureau_sql.proofs.OpenFacts.{no_store}
use Rattle.bureau_sql.proofs.OpensFacts.{opens_unless}
use Rattle.bureau_sql.proofs.finding.find_store.Goals as goal

pub returns-clause-cause : goal.returns-clause-cause
returns-clause-cause g c =
    let old = state g.S.Store c.args.conn.now in
    let new = state g.S.Store c.holds-found.new.conn in
    IfErr-weaker c.holds-found.result _ _ (λ fault seen clean. no_store c.columns_of_conditions.result.now old new fault c.columns_of_conditions.ensures (seen clean)) c.holds-found.ensures.cause

pub returns-clause-unopened : goal.returns-clause-unopened
returns-clause-unopened g c =
    let old = state g.S.Store c.args.conn.now in
    let new = state g.S.Store c.holds-found.new.conn in
    IfErr-weaker c.holds-found.result _ _
    (λ fault seen clean unlimited ours. opens_unless old new fault unlimited ours (no_store c.columns_of_conditions.result.now old new fault c.columns_of_conditions.ensures (seen clean))) c.holds-found.ensures.cause
