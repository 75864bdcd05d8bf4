use Rattle.std.proofs.Common.{◌≡◌, filter, take}
use Rattle.supersede.specs.Reach.{is_other}
use Rattle.supersede.proofs.giving.others.Given as goal

abbrev pub invariant-loop-other : goal.invariant-loop-other
invariant-loop-other l = l.others.items ≡ filter (is_other l.id) (take l.other-index l.ids)
