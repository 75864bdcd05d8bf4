use Rattle.std.proofs.Common.{◌≡◌, ◌⊎◌, ◌+◌, ◌-◌, ap, drop, length, subst, sym, take, arith}
use Rattle.std.specs.Prelude.{fold}
use Rattle.catalogue.specs.declared.change.Change.TheVariants.{Whole}
use Rattle.sql_writes.specs.Records.{AreNewMembers, AreNewRecords, FreeIf, record_gone, with_members, with_sysmods}
use Rattle.sql_rows.proofs.ChangeFacts.{alike, changes_then, refused}
use Rattle.sql_writes.proofs.FreeFacts.{free_new, spared}
use Rattle.sql_writes.proofs.TakeFacts.{stopped_first, takes_as, takes_more, takes_then}
use Rattle.sql_writes.proofs.TogetherFacts.{gone_from_first, members_after_all, new_after_all, rows_so_many}
use Rattle.sql_writes.proofs.WhereFacts.{where_any, where_here}
use Rattle.sql_writes.proofs.publication.put_rows.Goals as goal

pub returns-then-free-clause-changes : goal.returns-then-free-clause-changes
returns-then-free-clause-changes g c =
    where_here _ _ _ (FreeIf c.args.free c.args.changes.now) (λ stored. with_members c.args.sups.now (with_sysmods c.args.rows.now stored)) _
    (λ stored free. ap (λ left. with_members c.args.sups.now (with_sysmods c.args.rows.now left)) (sym (spared c.args.changes.now stored (free c.if-free.true)))) c.records.ensures.changes

pub returns-then-free-clause-takes : goal.returns-then-free-clause-takes
returns-then-free-clause-takes g c fits short =
    takes_more _ _ _ (length c.args.rows.now + length c.args.sups.now) (length c.args.rows.now + length c.args.sups.now)
    (λ stored. AreNewRecords c.args.changes.now stored.sysmods × AreNewMembers c.args.sups.now stored.sups) (FreeIf c.args.free c.args.changes.now)
    (λ stored free. free_new c.args.changes.now c.args.sups.now fits c.requires.sups stored (free c.if-free.true)) (omega arith) (c.records.ensures.takes c.args.changes.now c.requires.rows fits short)

pub returns-in_err-records-clause-changes : goal.returns-in_err-records-clause-changes
returns-in_err-records-clause-changes g c =
    where_any _ _ _ _ _ (refused _ _ _ _ (λ stored. fold record_gone (record_gone stored (Whole c.args.first.now)) (take (length c.args.changes.now - 1) (drop 1 c.args.changes.now))) _ c.from_residual.ensures.0 c.in_err-records.ensures.changes)

pub returns-clause-changes : goal.returns-clause-changes
returns-clause-changes g c =
    where_any _ _ _ _ _
    (changes_then _ _ _ tt _ (λ stored. fold record_gone stored c.args.changes.now) (λ stored. with_members c.args.sups.now (with_sysmods c.args.rows.now stored)) (alike _ _ _ (λ stored. fold record_gone (record_gone stored (Whole c.args.first.now)) (take (length c.args.changes.now - 1) (drop 1 c.args.changes.now))) _ (gone_from_first c.args.changes.now c.args.first.now c.requires.first) c.in_ok-records.ensures.changes) c.records-3.ensures.changes)

pub returns-in_err-records-clause-takes : goal.returns-in_err-records-clause-takes
returns-in_err-records-clause-takes g c fits short =
    stopped_first _ _ c.in_err-records.field-0.0 _ 0 _ (λ stored. Unit {0}) (FreeIf c.args.free c.args.changes.now) c.from_residual.ensures.1 (λ stored u. tt) c.in_err-records.ensures.takes (omega arith)

pub returns-clause-takes : goal.returns-clause-takes
returns-clause-takes g c fits short =
    takes_more _ _ _ (length c.args.rows.now + length c.args.sups.now) (length c.args.rows.now + length c.args.sups.now) (λ stored. Unit {0}) (FreeIf c.args.free c.args.changes.now) (λ stored free. tt) (omega arith)
    (takes_as _ _ _ (λ stored. Unit {0}) (omega arith)
    (takes_then _ _ _ tt _ (λ stored. fold record_gone stored c.args.changes.now) 0 (length c.args.rows.now + length c.args.sups.now) (λ stored. Unit {0})
    (λ stored. AreNewRecords c.args.changes.now stored.sysmods × AreNewMembers c.args.sups.now stored.sups)
    (λ stored u. (new_after_all c.args.changes.now c.requires.apart stored, members_after_all c.args.changes.now c.args.sups.now c.requires.apart fits c.requires.sups stored))
    (alike _ _ _ (λ stored. fold record_gone (record_gone stored (Whole c.args.first.now)) (take (length c.args.changes.now - 1) (drop 1 c.args.changes.now))) _ (gone_from_first c.args.changes.now c.args.first.now c.requires.first) c.in_ok-records.ensures.changes)
    c.in_ok-records.ensures.takes c.records-3.ensures.changes.survives (c.records-3.ensures.takes c.args.changes.now c.requires.rows fits short)))

pub records-requires-3 : goal.records-requires-3
records-requires-3 g c = record {
  count = subst (λ n. (n ≡ 1) ⊎ (n ≡ 8)) (sym (rows_so_many c.args.changes.now c.args.rows.now c.requires.rows)) c.requires.count;
}

pub records-requires : goal.records-requires
records-requires g c = record {
  count = subst (λ n. (n ≡ 1) ⊎ (n ≡ 8)) (sym (rows_so_many c.args.changes.now c.args.rows.now c.requires.rows)) c.requires.count;
}
