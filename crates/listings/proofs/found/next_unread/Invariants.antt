use Rattle.std.proofs.Common.{◌≤◌, ◌-◌, ◌^◌}
use Rattle.std.specs.BTreeMap.{keys}
use Rattle.listings.specs.Gathered.{AreRead}
use Rattle.listings.proofs.found.next_unread.Given as goal

-- the ids from `from` to `at` were read
abbrev pub invariant-loop-at : goal.invariant-loop-at
invariant-loop-at g l = record {
  after : l.from ≤ l.at;
  read : AreRead (keys l.found) l.order l.from → AreRead (keys l.found) l.order l.at;
}

abbrev pub decreases-loop-at : goal.decreases-loop-at
decreases-loop-at g l = 2 ^ 64 - l.at
