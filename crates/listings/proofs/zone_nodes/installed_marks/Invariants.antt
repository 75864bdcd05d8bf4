use Rattle.std.proofs.Common.{◌≡◌}
use Rattle.zone_lists.specs.Installed.{is_installed}
use Rattle.verdicts.specs.Indices.{id_at, MarksAre}
use Rattle.listings.proofs.zone_nodes.installed_marks.Given as goal

abbrev pub invariant-loop-member : goal.invariant-loop-member
invariant-loop-member l = MarksAre (λ p mark. mark ≡ is_installed l.zone (id_at l.members p)) l.member-index l.marks.items
