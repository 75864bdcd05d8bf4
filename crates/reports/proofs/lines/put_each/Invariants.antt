use Rattle.std.proofs.Common.{◌≡◌, ◌++◌, Some, map, take}
use Rattle.reports.specs.Lines.{line_of}
use Rattle.reports.proofs.lines.put_each.Given as goal

abbrev pub invariant-loop-resolver : goal.invariant-loop-resolver
invariant-loop-resolver l = l.lines.items ≡ l.fn.lines.items ++ map (λ one. line_of l.group (Some one)) (take l.resolver-index l.group.resolvers)
