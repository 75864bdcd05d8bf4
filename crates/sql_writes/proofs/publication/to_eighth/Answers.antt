use Rattle.std.proofs.Common.{◌<◌, length, arith}
use Rattle.sql_writes.proofs.TogetherFacts.{one_more_record}
use Rattle.sql_writes.proofs.publication.to_eighth.Goals as goal

pub returns-then-records-eq8-clause-eight : goal.returns-then-records-eq8-clause-eight
returns-then-records-eq8-clause-eight c some =
    let low : c.loop-at.at < length c.args.changes.now = omega (arith, c.loop-at-test.true, c.min-at-end.ensures) in
    let more = one_more_record c.args.changes.now c.loop-at.at c.index-changes-at.result low c.index-changes-at.is in
    let before = c.loop-at.invariant.counted in
    let one = c.records_of-records.ensures.counted in
    let all = c.if-records-eq8.true in
    omega (arith, more, before, one, all)

pub loop-at-preserved : goal.loop-at-preserved
loop-at-preserved c =
    let low : c.loop-at.at < length c.args.changes.now = omega (arith, c.loop-at-test.true, c.min-at-end.ensures) in
    let more = one_more_record c.args.changes.now c.loop-at.at c.index-changes-at.result low c.index-changes-at.is in
    let before = c.loop-at.invariant.counted in
    let one = c.records_of-records.ensures.counted in
    let few = c.loop-at.invariant.few in
    let most = c.records_of-records.ensures.most in
    let other = c.if-records-eq8.false in
    record { counted = omega (arith, more, before, one); few = omega (arith, few, most, other) }
