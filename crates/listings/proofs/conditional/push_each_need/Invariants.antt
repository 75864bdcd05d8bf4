use Rattle.std.proofs.Common.{◌≡◌, ◌++◌, take}
use Rattle.supersede.specs.Giving.{each_need}
use Rattle.listings.proofs.conditional.push_each_need.Given as goal

abbrev pub invariant-loop-cond : goal.invariant-loop-cond
invariant-loop-cond l = l.ids.items ≡ l.fn.ids.items ++ each_need (take l.cond-index l.conds)
