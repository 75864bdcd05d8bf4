use Rattle.std.proofs.Common.{◌≡◌, Err, IfErr, IsTrue, Ok, OnOk, Result, refl, rules, subst, sym}
use Rattle.bureau_store.specs.declared.fault.StoreFault.{StoreFault}
use Rattle.bureau_store.specs.declared.fault.StoreFault.TheVariants.{Device}
use Rattle.sqlite.specs.Given.{IsPlain}
use Rattle.sqlite.specs.Held.{state}
use Rattle.sqlite.specs.State.{FailsToQuery, HasCleanDisk}
use Rattle.sql_tables.specs.Reading.{HasFailed}
use Rattle.bureau_sql.proofs.PlainFacts.{query_reads, refused_as_no_query}
use Rattle.bureau_sql.proofs.RefusedFacts.{probe_failed, probe_shows_nothing}
use Rattle.bureau_sql.proofs.probe.look.Goals as goal
use Rattle.bureau_sql.proofs.probe.look.Goals.{in-Err, in-Ok}

pub returns-clause-reads : goal.returns-clause-reads
returns-clause-reads g c =
    let old = state g.S.Store c.args.conn.now in
    let new = state g.S.Store c.query_all.new.self in
    let plain = subst IsPlain (sym (c.rollback.ensures old.now.schema).statement) (refl, refl) in
    query_reads _ _ old new plain (λ rows. rows.items) c.query_all.result c.query_all.ensures.ok c.query_all.ensures.err c.query_all.ensures.survives

pub returns-clause-open : goal.returns-clause-open
returns-clause-open g c =
    let old = state g.S.Store c.args.conn.now in
    let new = state g.S.Store c.query_all.new.self in
    elim c.match-query_all.branch [
      | in-Ok w ↦ search (rules, w.result-is)
      | in-Err w ↦
          let plain = subst IsPlain (sym (c.rollback.ensures old.now.schema).statement) (refl, refl) in
          subst (λ result. OnOk result (HasCleanDisk new → IsTrue new.is_open)) (sym w.result-is)
          (open_by w.heard.result w.heard.ensures.open (λ query clean. refused_as_no_query _ _ old new plain (subst (FailsToQuery _ _ old new) query (w.in-Err.ensures.err clean))))
    ]
  where
    open_by : {Why Open : Type 0} (result : Result (Unit {0}) StoreFault) → OnOk result Why → (Why → Open) → OnOk result Open
    open_by (Ok done) why then = then why
    open_by (Err fault) why then = tt

pub returns-clause-failed : goal.returns-clause-failed
returns-clause-failed g c =
    let old = state g.S.Store c.args.conn.now in
    let new = state g.S.Store c.query_all.new.self in
    let means = c.rollback.ensures old.now.schema in
    elim c.match-query_all.branch [
      | in-Ok w ↦
          subst (λ result. IfErr result (λ fault. HasCleanDisk new → fault ≡ Device → HasFailed old new)) (sym w.result-is)
          (λ clean device. absurd (probe_shows_nothing _ old new means _ (w.in-Ok.ensures.ok clean)))
      | in-Err w ↦
          subst (λ result. IfErr result (λ fault. HasCleanDisk new → fault ≡ Device → HasFailed old new)) (sym w.result-is)
          (failed_by w.heard.result w.heard.ensures.failed (λ clean other. probe_failed _ old new means _ (w.in-Err.ensures.err clean) other.0 other.1))
    ]
  where
    failed_by : {Why Clean Failed : Type 0} (result : Result (Unit {0}) StoreFault) → IfErr result (λ fault. fault ≡ Device → Why) → (Clean → Why → Failed)
        → IfErr result (λ fault. Clean → fault ≡ Device → Failed)
    failed_by (Ok done) why then = tt
    failed_by (Err fault) why then = λ clean device. then clean (why device)
