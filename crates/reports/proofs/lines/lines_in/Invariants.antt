use Rattle.std.proofs.Common.{◌≡◌, take}
use Rattle.std.specs.List.{flat_map}
use Rattle.reports.specs.Lines.{lines_of}
use Rattle.reports.proofs.lines.lines_in.Given as goal

abbrev pub invariant-loop-group : goal.invariant-loop-group
invariant-loop-group l = l.lines.items ≡ flat_map lines_of (take l.group-index l.groups)
