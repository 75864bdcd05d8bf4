use Rattle.std.proofs.Common.{◌≡◌, ◌++◌, ◌≤◌, OnOk, length, rules, subst}
use Rattle.reports.specs.Lines.{line_of}
use Rattle.reports.proofs.KeyedFacts.{each_is}
use Rattle.reports.proofs.lines.put_lines.Goals as goal

pub returns-in_default : goal.returns-in_default
returns-in_default c =
    let some : 1 ≤ length c.args.group.now.resolvers = subst (λ resolvers. 1 ≤ length resolvers) c.resolvers-resolvers.ensures (search rules) in
    subst (λ lines. OnOk c.put_each.result (c.put_each.new.lines.items ≡ c.args.lines.now.items ++ lines)) (each_is (line_of c.args.group.now) c.args.group.now.resolvers some) c.put_each.ensures
