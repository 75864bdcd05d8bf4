use Rattle.std.proofs.Common.{◌≡◌, ◌++◌}
use Rattle.std.specs.Map.{values_of}
use Rattle.holddata.specs.HoldBook.{holds_on}
use Rattle.holddata.proofs.book.HoldBook.holds_on.Given as goal

-- the holds so far with those to come are all
abbrev pub invariant-loop-hold : goal.invariant-loop-hold
invariant-loop-hold l = l.holds.items ++ values_of l.hold-iterator ≡ holds_on l.self l.sysmod
