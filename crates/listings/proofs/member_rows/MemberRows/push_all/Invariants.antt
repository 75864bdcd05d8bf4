use Rattle.std.proofs.Common.{◌++◌, List, take}
use Rattle.listings.specs.MemberRows.{AreRowsOf}
use Rattle.listings.specs.Sights.{Sight}
use Rattle.listings.proofs.member_rows.MemberRows.push_all.Given as goal

abbrev pub invariant-loop-entry : goal.invariant-loop-entry
invariant-loop-entry l = (before : List Sight) → AreRowsOf l.zone l.members before l.fn.self.candidates.items l.fn.self.needs l.fn.self.supersedes
    → AreRowsOf l.zone l.members (before ++ take l.entry-index l.entries) l.self.candidates.items l.self.needs l.self.supersedes
