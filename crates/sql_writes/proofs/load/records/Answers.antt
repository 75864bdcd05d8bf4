use Rattle.std.proofs.Common.{◌+◌, ◌*◌, Err, Ok, length, arith, subst, sym, take, ◌∙◌}
use Rattle.sql_tables.specs.Stored.{Stored, is_of_both}
use Rattle.sql_writes.specs.Records.{AreNewMembers, AreNewRecords, with_members, with_sysmods}
use Rattle.sql_writes.proofs.AlikeFacts.{part_is, part_length, parts_begun, parts_ended, parts_fit, parts_longer}
use Rattle.sql_rows.proofs.ChangeFacts.{stopped}
use Rattle.sql_texts.specs.Schema.{bureau}
use Rattle.sql_writes.specs.Many.{MeansBy, insert_alike, parameters_to}
use Rattle.sql_rows.proofs.AbsentFacts.{every}
use Rattle.sql_writes.proofs.TogetherFacts.{members_come_so}
use Rattle.sql_writes.proofs.TakeFacts.{stopped_first, takes_more}
use Rattle.sql_writes.proofs.load.records.Goals as goal

pub returns-in_err-sysmods-clause-takes : goal.returns-in_err-sysmods-clause-takes
returns-in_err-sysmods-clause-takes g c records same fit short =
    stopped_first _ _ c.in_err-sysmods.field-0.0 _ (length c.args.rows.now) _ (λ stored. AreNewRecords records stored.sysmods) (λ stored. AreNewRecords records stored.sysmods × AreNewMembers c.args.sups.now stored.sups) c.from_residual.ensures.1 (λ stored both. both.0)
    (c.in_err-sysmods.ensures.takes records same fit short) (omega arith)

pub loop-at-init : goal.loop-at-init
loop-at-init g c = record {
  same = c.sysmods.ensures.same;
  within = omega arith;
  changes = parts_begun _ _ _ members_come_so (with_sysmods c.args.rows.now) c.args.sups.now _ _ _ c.in_ok-sysmods.ensures.changes;
  takes = λ records same fit short. takes_more _ _ (Ok tt) (length c.args.rows.now) (length c.args.rows.now + 0) (λ stored. AreNewRecords records stored.sysmods) (λ stored. AreNewRecords records stored.sysmods × AreNewMembers c.args.sups.now stored.sups)
      (λ stored both. both.0) (omega arith) (c.in_ok-sysmods.ensures.takes records same fit short);
}

pub insertion-text-requires : goal.insertion-text-requires
insertion-text-requires g c =
    let is = part_is c.loop-at.at (length c.args.sups.now) 8 c.min-count.result c.loop-at-test.true (omega arith) c.min-count.ensures in
    record { some = is.0; few = is.1 }

pub rows-requires : goal.rows-requires
rows-requires g c =
    let is = part_is c.loop-at.at (length c.args.sups.now) 8 c.min-count.result c.loop-at-test.true (omega arith) c.min-count.ensures in
    let long = part_length c.loop-at.at c.min-count.result c.args.sups.now is.2 in
    let some = is.0 in
    let few = is.1 in
    record {
      count = (omega (arith, long, some), omega (arith, long, few));
      means = subst (λ n. MeansBy bureau c.insertion-text.result.now (insert_alike 4 0 2 n) (parameters_to (0 + 2 * n))) (sym long) c.insertion-text.ensures;
    }

pub returns-in_err-rows-clause-changes : goal.returns-in_err-rows-clause-changes
returns-in_err-rows-clause-changes g c =
    stopped _ _ _ tt _ _ (λ stored. with_members (take c.loop-at.at c.args.sups.now) (with_sysmods c.args.rows.now stored)) _ _ c.from_residual-in_err-rows.ensures.0 c.loop-at.invariant.changes c.in_err-rows.ensures.changes

pub loop-at-preserved : goal.loop-at-preserved
loop-at-preserved g c =
    let sups = c.args.sups.now in
    let is = part_is c.loop-at.at (length sups) 8 c.min-count.result c.loop-at-test.true (omega arith) c.min-count.ensures in record {
      same = c.rows.ensures.same ∙ c.loop-at.invariant.same;
      within = is.2;
      changes = parts_longer _ _ _ members_come_so (with_sysmods c.args.rows.now) sups c.loop-at.at c.min-count.result _ _ _ (Ok tt) c.loop-at.invariant.changes c.in_ok-rows.ensures.changes;
      takes = λ records same fit short. parts_fit _ _ _ members_come_so (with_sysmods c.args.rows.now) sups (λ row. is_of_both row.id row.member) (λ stored. AreNewRecords records stored.sysmods × AreNewMembers sups stored.sups) (λ stored both. both.1)
          (length c.args.rows.now) c.loop-at.at c.min-count.result _ _ _ (Ok tt) is.2
          c.loop-at.invariant.changes (c.loop-at.invariant.takes records same fit short) c.rows.ensures.changes.survives (c.in_ok-rows.ensures.takes (every (λ row. Unit {0}) (λ row. tt) _));
    }

pub returns-clause-changes : goal.returns-clause-changes
returns-clause-changes g c =
    parts_ended _ _ _ members_come_so (with_sysmods c.args.rows.now) c.args.sups.now c.loop-at.at _ _ (omega (arith, c.loop-at-test.false)) c.loop-at.invariant.changes

pub returns-in_err-rows-clause-takes : goal.returns-in_err-rows-clause-takes
returns-in_err-rows-clause-takes g c records same fit short =
    let sups = c.args.sups.now in
    let is = part_is c.loop-at.at (length sups) 8 c.min-count.result c.loop-at-test.true (omega arith) c.min-count.ensures in
    let low = is.2 in
    let Fits = λ (stored : Stored). AreNewRecords records stored.sysmods × AreNewMembers sups stored.sups in
    stopped_first _ _ c.in_err-rows.field-0.0 _ (length c.args.rows.now + (c.loop-at.at + c.min-count.result)) _ Fits Fits c.from_residual-in_err-rows.ensures.1 (λ stored both. both)
    (parts_fit _ _ _ members_come_so (with_sysmods c.args.rows.now) sups (λ row. is_of_both row.id row.member) Fits (λ stored both. both.1) (length c.args.rows.now) c.loop-at.at c.min-count.result _ _ _ (Err c.in_err-rows.field-0.0) low
    c.loop-at.invariant.changes (c.loop-at.invariant.takes records same fit short) c.rows.ensures.changes.survives (c.in_err-rows.ensures.takes (every (λ row. Unit {0}) (λ row. tt) _)))
    (omega (arith, low))
