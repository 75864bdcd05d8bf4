use Rattle.reports.specs.Lines.{lines_of}
use Rattle.reports.proofs.ResolverFacts.{flat_map_more}
use Rattle.reports.proofs.lines.lines_in.Goals as goal

pub loop-group-preserved : goal.loop-group-preserved
loop-group-preserved c =
    flat_map_more lines_of c.args.groups.now c.loop-group.group-index c.group-item.result c.loop-group.lines.items c.put_lines.new.lines.items c.loop-group-test.true c.group-item.is
    c.loop-group.invariant c.in_ok-put_lines.ensures
