use Rattle.std.proofs.Common.{◌≡◌, take}
use Rattle.mcs_reader.specs.Bytes.{bytes_of_each}
use Rattle.reports.specs.Found.{put_groups}
use Rattle.reports.proofs.MissingFacts.{groups_among}
use Rattle.reports.proofs.missing.put_asked.Given as goal

abbrev pub invariant-loop-category : goal.invariant-loop-category
invariant-loop-category l = l.groups.entries ≡ put_groups l.fn.groups.entries (groups_among l.patterns l.held (bytes_of_each (take l.category-index l.category-items)))
