use Rattle.std.proofs.Common.{◌≡◌, map, take}
use Rattle.std.specs.List.{list_any}
use Rattle.zone_lists.specs.Installed.{is_installed}
use Rattle.chains.proofs.planning.candidate_marks.Given as goal

abbrev pub invariant-loop-node : goal.invariant-loop-node
invariant-loop-node l = l.marks.items ≡ map (λ node. list_any (λ fmid. is_installed l.zone fmid) node.fmids) (take l.node-index l.nodes)
