use Rattle.std.proofs.Common.{◌≡◌, ◌+◌, ◌*◌, ℕ, Err, Ok, arith, length, map, subst, sym, take, ◌∙◌}
use Rattle.sqlite.specs.Held.{state}
use Rattle.sql_texts.specs.Schema.{bureau}
use Rattle.sql_tables.specs.Changes.{coming, going, instead}
use Rattle.sql_tables.specs.Stored.{of_table}
use Rattle.sql_rows.proofs.ChangeFacts.{alike, stopped}
use Rattle.sql_rows.proofs.TableFacts.{in_place}
use Rattle.sql_writes.specs.Excused.{Takes}
use Rattle.sql_writes.specs.Many.{MeansBy, insert_alike, parameters_to}
use Rattle.sql_writes.proofs.AlikeFacts.{part, part_all, part_is, part_length, parts_begun, parts_ended, parts_longer, parts_take}
use Rattle.sql_writes.proofs.SeveralFacts.{come_so, new_gone}
use Rattle.sql_writes.proofs.TakeFacts.{stopped_first}
use Rattle.sql_writes.proofs.load.replace.Goals as goal

pub loop-at-init : goal.loop-at-init
loop-at-init g c =
    let t = g.T.Table in
    let s = g.T.Several in
    let key = c.args.key.now in
    let all = c.args.items.now in
    record {
      same = c.leave.ensures.same;
      within = omega arith;
      changes = parts_begun (s.row_of key) t.rows (λ things. coming (of_table t.rows t.with_rows) (map (s.row_of key) things)) (come_so t.index t.table t.rows t.with_rows t.stands (s.row_of key)) (going (of_table t.rows t.with_rows) (g.K.Key.has key)) all _ _ _ c.in_ok-leave.ensures.changes;
      takes = λ short new. c.in_ok-leave.ensures.takes;
    }

pub insertion-text-requires : goal.insertion-text-requires
insertion-text-requires g c =
    let is = part_is c.loop-at.at (length c.args.items.now) c.most.result c.min-count.result c.loop-at-test.true c.most.ensures.some c.min-count.ensures in
    let few = is.1 in
    record { some = is.0; few = omega (arith, few, c.most.ensures.most) }

pub rows-requires : goal.rows-requires
rows-requires g c =
    let t = g.T.Table in
    let s = g.T.Several in
    let k = g.K.Key in
    let all = c.args.items.now in
    let is = part_is c.loop-at.at (length all) c.most.result c.min-count.result c.loop-at-test.true c.most.ensures.some c.min-count.ensures in
    let low = is.2 in
    let long = part_length c.loop-at.at c.min-count.result all low in
    let some = is.0 in
    let few = is.1 in
    record {
      count = g.met.T.InParts.may_come (length (part c.loop-at.at c.min-count.result all)) (omega (arith, long, some)) (omega (arith, long, few, c.most.ensures.most));
      means = subst (λ n. MeansBy bureau c.insertion-text.result.now (insert_alike t.index k.parameters s.own n) (parameters_to (k.parameters + s.own * n))) (sym long) c.insertion-text.ensures;
    }

pub returns-in_err-rows-clause-changes : goal.returns-in_err-rows-clause-changes
returns-in_err-rows-clause-changes g c =
    let t = g.T.Table in
    let s = g.T.Several in
    let key = c.args.key.now in
    let all = c.args.items.now in
    stopped _ _ _ tt _ _ (λ stored. coming (of_table t.rows t.with_rows) (map (s.row_of key) (take c.loop-at.at all)) (going (of_table t.rows t.with_rows) (g.K.Key.has key) stored)) _ _ c.from_residual-in_err-rows.ensures.0 c.loop-at.invariant.changes c.in_err-rows.ensures.changes

pub loop-at-preserved : goal.loop-at-preserved
loop-at-preserved g c =
    let t = g.T.Table in
    let s = g.T.Several in
    let key = c.args.key.now in
    let all = c.args.items.now in
    let is = part_is c.loop-at.at (length all) c.most.result c.min-count.result c.loop-at-test.true c.most.ensures.some c.min-count.ensures in
    let low = is.2 in
    record {
      same = c.rows.ensures.same ∙ c.loop-at.invariant.same;
      within = low;
      changes = parts_longer (s.row_of key) t.rows (λ things. coming (of_table t.rows t.with_rows) (map (s.row_of key) things)) (come_so t.index t.table t.rows t.with_rows t.stands (s.row_of key)) (going (of_table t.rows t.with_rows) (g.K.Key.has key)) all c.loop-at.at c.min-count.result _ _ _ (Ok tt) c.loop-at.invariant.changes c.in_ok-rows.ensures.changes;
      takes = λ short new. parts_take (s.row_of key) t.rows (λ things. coming (of_table t.rows t.with_rows) (map (s.row_of key) things)) (come_so t.index t.table t.rows t.with_rows t.stands (s.row_of key)) (going (of_table t.rows t.with_rows) (g.K.Key.has key)) all (s.is_same key) (new_gone t.index t.table t.rows t.with_rows t.stands (s.row_of key) (s.is_same key) (g.K.Key.has key) all new) c.loop-at.at c.min-count.result _ _ _ (Ok tt) low
          c.loop-at.invariant.changes (c.loop-at.invariant.takes short new) c.rows.ensures.changes.survives (c.in_ok-rows.ensures.takes (part_all s.is_short c.loop-at.at c.min-count.result all short));
    }

pub returns-clause-changes : goal.returns-clause-changes
returns-clause-changes g c =
    let t = g.T.Table in
    let s = g.T.Several in
    let key = c.args.key.now in
    let all = c.args.items.now in
    let has = g.K.Key.has key in
    let news = map (s.row_of key) all in
    alike _ _ (Ok tt) (λ stored. coming (of_table t.rows t.with_rows) news (going (of_table t.rows t.with_rows) has stored)) (instead (of_table t.rows t.with_rows) has news) (in_place t.index t.table t.rows t.with_rows t.stands has news)
    (parts_ended (s.row_of key) t.rows (λ things. coming (of_table t.rows t.with_rows) (map (s.row_of key) things)) (come_so t.index t.table t.rows t.with_rows t.stands (s.row_of key)) (going (of_table t.rows t.with_rows) (g.K.Key.has key)) all c.loop-at.at _ _ (omega (arith, c.loop-at-test.false)) c.loop-at.invariant.changes)

pub returns-in_err-leave-clause-takes : goal.returns-in_err-leave-clause-takes
returns-in_err-leave-clause-takes g c short new =
    stopped_first _ _ c.in_err-leave.field-0.0 _ 0 _ (λ stored. Unit {0}) (λ stored. Unit {0}) c.from_residual.ensures.1 (λ stored u. tt) c.in_err-leave.ensures.takes (omega arith)

pub returns-in_err-rows-clause-takes : goal.returns-in_err-rows-clause-takes
returns-in_err-rows-clause-takes g c short new =
    let t = g.T.Table in
    let s = g.T.Several in
    let key = c.args.key.now in
    let all = c.args.items.now in
    let is = part_is c.loop-at.at (length all) c.most.result c.min-count.result c.loop-at-test.true c.most.ensures.some c.min-count.ensures in
    let low = is.2 in
    stopped_first _ _ c.in_err-rows.field-0.0 _ (c.loop-at.at + c.min-count.result) _ (λ stored. Unit {0}) (λ stored. Unit {0}) c.from_residual-in_err-rows.ensures.1 (λ stored u. tt)
    (parts_take (s.row_of key) t.rows (λ things. coming (of_table t.rows t.with_rows) (map (s.row_of key) things)) (come_so t.index t.table t.rows t.with_rows t.stands (s.row_of key)) (going (of_table t.rows t.with_rows) (g.K.Key.has key)) all (s.is_same key) (new_gone t.index t.table t.rows t.with_rows t.stands (s.row_of key) (s.is_same key) (g.K.Key.has key) all new) c.loop-at.at c.min-count.result _ _ _ (Err c.in_err-rows.field-0.0) low
    c.loop-at.invariant.changes (c.loop-at.invariant.takes short new) c.rows.ensures.changes.survives (c.in_err-rows.ensures.takes (part_all s.is_short c.loop-at.at c.min-count.result all short)))
    low

pub returns-clause-takes : goal.returns-clause-takes
returns-clause-takes g c short new =
    let ended : c.loop-at.at ≡ length c.args.items.now = omega (arith, c.loop-at-test.false, c.loop-at.invariant.within) in
    subst (λ (n : ℕ). Takes {Answer = Unit {0}} (state g.S.Store c.args.tx.now.conn.now) (state g.S.Store c.loop-at.tx.conn.now) (Ok tt) n (λ stored. Unit {0})) ended (c.loop-at.invariant.takes short new)
