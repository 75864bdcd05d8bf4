use Rattle.std.proofs.Common.{◌++◌, take}
use Rattle.listings.proofs.MemberRowFacts.{rows_more_of}
use Rattle.listings.proofs.member_rows.MemberRows.push_all.Goals as goal

pub loop-entry-preserved : goal.loop-entry-preserved
loop-entry-preserved c = λ before start.
    let rows = c.push.new.self in
    let i = c.loop-entry.entry-index in
    rows_more_of c.args.zone.now c.args.members.now before c.args.entries.now i c.entry-item.result rows.candidates.items rows.needs rows.supersedes c.loop-entry-test.true c.entry-item.is
    (c.in_ok-push.ensures (before ++ take i c.args.entries.now) (c.loop-entry.invariant before start))
