use Rattle.std.proofs.Common.{inl, inr, rules}
use Rattle.sqlite.specs.Held.{state}
use Rattle.sqlite.specs.State.{HasCleanDisk}
use Rattle.sql_tables.proofs.StopFacts.{read_on, was_clean}
use Rattle.bureau_sql.specs.Opening.{HasTables, IsOneStatement, IsOther, IsSeen, IsUnderstood, LacksMore, LacksTables, LacksVersion}
use Rattle.bureau_sql.proofs.OpenFacts.{found_where_open, probe_seen, seen_before, seen_so}
use Rattle.bureau_sql.proofs.finding.holds.Goals as goal

pub returns-in_err-has_version-clause-cause : goal.returns-in_err-has_version-clause-cause
returns-in_err-has_version-clause-cause g c =
    let cause : HasCleanDisk (state g.S.Store c.has_version.new.conn) → IsSeen (LacksMore c.args.wanted c.args.text.now) (IsOther c.args.wanted) (state g.S.Store c.args.conn.now) (state g.S.Store c.has_version.new.conn) c.in_err-has_version.field-0.0 =
    λ clean. seen_so LacksVersion (IsOther c.args.wanted) (LacksMore c.args.wanted c.args.text.now) (IsOther c.args.wanted) (state g.S.Store c.args.conn.now) (state g.S.Store c.has_version.new.conn) c.in_err-has_version.field-0.0
    (λ database lacks. inl lacks) (λ database other. other) (c.in_err-has_version.ensures.cause clean) in
    search (rules, cause, c.from_residual.ensures)

pub returns-in_err-has_tables-clause-cause : goal.returns-in_err-has_tables-clause-cause
returns-in_err-has_tables-clause-cause g c =
    let old = state g.S.Store c.args.conn.now in
    let first = state g.S.Store c.has_version.new.conn in
    let last = state g.S.Store c.has_tables.new.conn in
    let cause : HasCleanDisk last → IsSeen (LacksMore c.args.wanted c.args.text.now) (IsOther c.args.wanted) old last c.in_err-has_tables.field-0.0 =
    seen_before LacksTables (λ database. ⊥) (LacksMore c.args.wanted c.args.text.now) (IsOther c.args.wanted)
    old first last c.in_err-has_tables.field-0.0
    c.in_ok-has_version.ensures.reads c.in_err-has_tables.ensures.reads
    (λ clean lacks. inr (c.in_ok-has_version.ensures.version (was_clean first last (λ trees. ⊥) c.in_err-has_tables.ensures.reads.survives clean), inl lacks)) (λ clean none. absurd none) c.in_err-has_tables.ensures.cause in
    search (rules, cause, c.from_residual-in_err-has_tables.ensures)

pub returns-in_err-can_read-clause-cause : goal.returns-in_err-can_read-clause-cause
returns-in_err-can_read-clause-cause g c =
    let old = state g.S.Store c.args.conn.now in
    let first = state g.S.Store c.has_version.new.conn in
    let second = state g.S.Store c.has_tables.new.conn in
    let last = state g.S.Store c.can_read.new.conn in
    let version = λ (clean : HasCleanDisk last).
    c.in_ok-has_version.ensures.version (was_clean first second (λ trees. ⊥) c.in_ok-has_tables.ensures.reads.survives (was_clean second last (λ trees. ⊥) c.in_err-can_read.ensures.reads.survives clean)) in
    let cause : HasCleanDisk last → IsSeen (LacksMore c.args.wanted c.args.text.now) (IsOther c.args.wanted) old last c.in_err-can_read.field-0.0 =
    seen_before (λ database. IsOneStatement database.schema c.args.text.now → ⊥) (λ database. ⊥) (LacksMore c.args.wanted c.args.text.now) (IsOther c.args.wanted)
    old second last c.in_err-can_read.field-0.0
    (read_on old first second c.in_ok-has_version.ensures.reads c.in_ok-has_tables.ensures.reads) c.in_err-can_read.ensures.reads
    (λ clean none. inr (version clean, inr none)) (λ clean none. absurd none) c.in_err-can_read.ensures.cause in
    search (rules, cause, c.from_residual-in_err-can_read.ensures)

pub returns-clause-tables : goal.returns-clause-tables
returns-clause-tables g c =
    let second = state g.S.Store c.has_tables.new.conn in
    let last = state g.S.Store c.look.new.conn in
    found_where_open (λ database. HasTables database.schema) (state g.S.Store c.args.conn.now) (state g.S.Store c.has_version.new.conn) second last c.look.result
    c.in_ok-has_version.ensures.reads c.in_ok-has_tables.ensures.reads (read_on second (state g.S.Store c.can_read.new.conn) last c.in_ok-can_read.ensures.reads c.look.ensures.reads)
    c.look.ensures.open c.in_ok-has_tables.ensures.tables

pub returns-clause-understood : goal.returns-clause-understood
returns-clause-understood g c =
    let old = state g.S.Store c.args.conn.now in
    let second = state g.S.Store c.has_tables.new.conn in
    found_where_open (λ database. IsUnderstood database.schema c.args.text.now) old second (state g.S.Store c.can_read.new.conn) (state g.S.Store c.look.new.conn) c.look.result
    (read_on old (state g.S.Store c.has_version.new.conn) second c.in_ok-has_version.ensures.reads c.in_ok-has_tables.ensures.reads) c.in_ok-can_read.ensures.reads c.look.ensures.reads
    c.look.ensures.open (λ clean is_open. c.in_ok-can_read.ensures.understood clean)

pub returns-clause-cause : goal.returns-clause-cause
returns-clause-cause g c =
    let old = state g.S.Store c.args.conn.now in
    let first = state g.S.Store c.has_version.new.conn in
    let second = state g.S.Store c.has_tables.new.conn in
    let third = state g.S.Store c.can_read.new.conn in
    probe_seen (LacksMore c.args.wanted c.args.text.now) (IsOther c.args.wanted) old third (state g.S.Store c.look.new.conn) c.look.result
    (read_on old second third (read_on old first second c.in_ok-has_version.ensures.reads c.in_ok-has_tables.ensures.reads) c.in_ok-can_read.ensures.reads)
    c.look.ensures.reads c.look.ensures.cause c.look.ensures.failed
