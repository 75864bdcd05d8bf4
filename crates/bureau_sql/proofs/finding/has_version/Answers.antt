use Rattle.std.proofs.Common.{Err, IfErr, Ok, Result, rules, subst, sym}
use Rattle.sqlite.specs.Effect.{Database}
use Rattle.sqlite.specs.Held.{state}
use Rattle.sql_tables.proofs.StopFacts.{was_clean}
use Rattle.sqlite.specs.State.{HasCleanDisk}
use Rattle.sql_texts.specs.Schema.{bureau_1}
use Rattle.bureau_sql.specs.Opening.{IsOneStatement, IsOther, IsSeen, IsUnderstood, LacksVersion}
use Rattle.bureau_sql.proofs.OpenFacts.{one_of_asked, seen_after, seen_so, version_lacks}
use Rattle.bureau_sql.proofs.finding.has_version.Goals as goal

pub returns-in_err-can_read-clause-cause : goal.returns-in_err-can_read-clause-cause
returns-in_err-can_read-clause-cause g c =
    let cause : HasCleanDisk (state g.S.Store c.can_read.new.conn) → IsSeen LacksVersion (IsOther c.args.wanted) (state g.S.Store c.args.conn.now) (state g.S.Store c.can_read.new.conn) c.in_err-can_read.field-0.0 =
    λ clean. seen_so (λ database. IsOneStatement database.schema c.version-text.result.now → ⊥) (λ database. ⊥) LacksVersion (IsOther c.args.wanted) (state g.S.Store c.args.conn.now) (state g.S.Store c.can_read.new.conn) c.in_err-can_read.field-0.0
    (version_lacks c.version-text.result.now c.version-text.ensures.reads (one_of_asked bureau_1 c.version-text.result.now _ _ _ c.version-text.ensures.version_1)) (λ database none. absurd none) (c.in_err-can_read.ensures.cause clean) in
    search (rules, cause, c.from_residual.ensures)

pub returns-clause-cause : goal.returns-clause-cause
returns-clause-cause g c =
    let old = state g.S.Store c.args.conn.now in
    let mid = state g.S.Store c.can_read.new.conn in
    let last = state g.S.Store c.is_version.new.conn in
    seen_after (λ database. ⊥) (IsOther c.args.wanted) LacksVersion (IsOther c.args.wanted) old mid last c.is_version.result c.in_ok-can_read.ensures.reads c.is_version.ensures.reads
    (λ database none. absurd none) (λ database other. other)
    (with_meaning _ c.is_version.result c.is_version.ensures.cause (λ clean on.
    let before = was_clean mid last (λ trees. ⊥) c.is_version.ensures.reads.survives clean in
    subst (λ (d : Database). IsUnderstood d.schema c.version-text.result.now) (sym ((c.in_ok-can_read.ensures.reads.keeps before).committed on)) (c.in_ok-can_read.ensures.understood before)))
  where
    with_meaning : {A Fault Clean Means : Type 0} (Seen : Fault → Type 0) (result : Result A Fault) → IfErr result (λ fault. Clean → Means → Seen fault) → (Clean → Means) → IfErr result (λ fault. Clean → Seen fault)
    with_meaning Seen (Ok a) seen means = tt
    with_meaning Seen (Err fault) seen means = λ clean. seen clean (means clean)
