use Rattle.std.proofs.Common.{◌≡◌, IfErr, IsTrue, OnOk, rules, subst, sym}
use Rattle.sqlite.specs.Held.{state}
use Rattle.sqlite.specs.State.{HasCleanDisk}
use Rattle.bureau_sql.specs.Opening.{IsOneStatement, IsSeen, IsUnderstood}
use Rattle.bureau_sql.proofs.OpenFacts.{means_here}
use Rattle.bureau_sql.proofs.RefusedFacts.{unread}
use Rattle.bureau_sql.proofs.PlainFacts.{prepare_reads}
use Rattle.bureau_sql.proofs.finding.can_read.Goals as goal
use Rattle.bureau_sql.proofs.finding.can_read.Goals.{in-Ok, in-Err}

pub returns-clause-reads : goal.returns-clause-reads
returns-clause-reads g c =
    prepare_reads (state g.S.Store c.args.conn.now) (state g.S.Store c.prepare.new.self) c.args.text.now (λ statement. statement.text ≡ c.args.text.now) c.prepare.result
    c.prepare.ensures.ok c.prepare.ensures.err c.prepare.ensures.survives

pub returns-clause-cause : goal.returns-clause-cause
returns-clause-cause g c =
    let old = state g.S.Store c.args.conn.now in
    let new = state g.S.Store c.prepare.new.self in
    let settled : IsTrue old.is_open → old.now ≡ old.committed =
    search (rules, c.is_autocommit-settled.ensures.settled, c.is_autocommit-settled.ensures.value, c.requires.rest) in
    elim c.match-prepare.branch [
      | in-Ok w ↦ search (rules, w.result-is)
      | in-Err w ↦
          subst (λ result. IfErr result (λ fault. HasCleanDisk new → IsSeen (λ database. IsOneStatement database.schema c.args.text.now → ⊥) (λ database. ⊥) old new fault)) (sym w.result-is)
          (λ clean. unread old new c.args.text.now _ settled w.fault_of.result (w.in-Err.ensures.err clean) w.fault_of.ensures)
    ]

pub returns-clause-understood : goal.returns-clause-understood
returns-clause-understood g c =
    let old = state g.S.Store c.args.conn.now in
    let new = state g.S.Store c.prepare.new.self in
    let settled : IsTrue old.is_open → old.now ≡ old.committed =
    search (rules, c.is_autocommit-settled.ensures.settled, c.is_autocommit-settled.ensures.value, c.requires.rest) in
    elim c.match-prepare.branch [
      | in-Ok w ↦
          subst (λ result. OnOk result (HasCleanDisk new → IsUnderstood old.committed.schema c.args.text.now)) (sym w.result-is)
          (λ clean. means_here old new c.args.text.now _ settled (w.in-Ok.ensures.ok clean).1 (w.in-Ok.ensures.shape clean))
      | in-Err w ↦ search (rules, w.result-is)
    ]
