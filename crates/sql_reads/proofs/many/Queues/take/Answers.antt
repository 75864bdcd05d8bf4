use Rattle.sql_reads.proofs.SeenFacts.{seen_so}
use Rattle.sql_reads.proofs.many.Queues.take.Goals as goal

pub returns : goal.returns
returns c = λ stored later left.
    let conds = c.take.ensures stored.conds later left.of_conds in
    let sups = c.take-2.ensures stored.sups later left.of_sups in
    let holds = c.take-3.ensures stored.holds later left.of_holds in
    let records = c.take-4.ensures stored.sysmods later left.of_records in (
      seen_so stored c.args.id.now c.take-4.result.now c.take-2.result.now c.take.result.now c.take-3.result.now (record { conds = c.in_ok-conds.conds; sup = c.in_ok-sup.sup })
          (record { sysmod = c.in_ok-sysmod.sysmod; holds = c.in_ok-holds.holds.items }) records.0 sups.0 conds.0 holds.0 c.in_ok-sysmod.ensures c.in_ok-sup.ensures.items c.in_ok-sup.ensures.ascend
          c.in_ok-conds.ensures.items c.in_ok-conds.ensures.ascend c.in_ok-holds.ensures.said c.in_ok-holds.ensures.ascend,
      record { of_records = records.1; of_sups = sups.1; of_conds = conds.1; of_holds = holds.1 },
    )
