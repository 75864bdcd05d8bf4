use Rattle.std.proofs.Common.{[], get_or, rules}
use Rattle.std.proofs.lemmas.List.Elements.{Contains-get_or}
use Rattle.sqlite.specs.Held.{state}
use Rattle.sqlite.specs.State.{HasCleanDisk}
use Rattle.sql_tables.proofs.StopFacts.{read_on}
use Rattle.bureau_sql.specs.Opening.{IsOneStatement, IsSeen, LacksText}
use Rattle.bureau_sql.proofs.OpenFacts.{meant_so_far, seen_before}
use Rattle.bureau_sql.proofs.finding.can_read_all.Goals as goal

pub returns-in_err-can_read-clause-cause : goal.returns-in_err-can_read-clause-cause
returns-in_err-can_read-clause-cause g c =
    let cause : HasCleanDisk (state g.S.Store c.can_read.new.conn)
    → IsSeen (LacksText c.args.texts.now) (λ database. ⊥) (state g.S.Store c.args.conn.now) (state g.S.Store c.can_read.new.conn) c.in_err-can_read.field-0.0 =
    seen_before (λ database. IsOneStatement database.schema (get_or c.args.texts.now c.loop-text.text-index (record { ref_ptr = (0, 0); now = [] })).now → ⊥) (λ database. ⊥) (LacksText c.args.texts.now) (λ database. ⊥)
    (state g.S.Store c.args.conn.now) (state g.S.Store c.loop-text.conn) (state g.S.Store c.can_read.new.conn) c.in_err-can_read.field-0.0
    c.loop-text.invariant.reads c.in_err-can_read.ensures.reads
    (λ clean none. (_, Contains-get_or c.args.texts.now c.loop-text.text-index (record { ref_ptr = (0, 0); now = [] }) c.loop-text-test.true, none)) (λ clean none. none)
    c.in_err-can_read.ensures.cause in
    search (rules, cause, c.from_residual.ensures)

pub loop-text-preserved : goal.loop-text-preserved
loop-text-preserved g c =
    let old = state g.S.Store c.args.conn.now in
    let mid = state g.S.Store c.loop-text.conn in
    let new = state g.S.Store c.can_read.new.conn in
    record {
      reads = read_on old mid new c.loop-text.invariant.reads c.in_ok-can_read.ensures.reads;
      mode = c.in_ok-can_read.ensures.mode;
      understood = meant_so_far c.args.texts.now c.loop-text.text-index (record { ref_ptr = (0, 0); now = [] }) old mid new c.loop-text.invariant.reads
          c.in_ok-can_read.ensures.reads c.loop-text-test.true c.loop-text.invariant.understood c.in_ok-can_read.ensures.understood;
    }
