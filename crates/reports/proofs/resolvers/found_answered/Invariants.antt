use Rattle.std.proofs.Common.{◌≡◌, List, take}
use Rattle.zone_lists.specs.declared.zones.ZoneRow.{ZoneRow}
use Rattle.catalogue.specs.Content.{Content}
use Rattle.catalogue.specs.Ids.{in_order}
use Rattle.reports.specs.Found.{all_found, all_named, resolved_by}
use Rattle.reports.specs.Resolvers.{AreAnswers}
use Rattle.reports.proofs.resolvers.found_answered.Given as goal

abbrev pub invariant-loop-hold : goal.invariant-loop-hold
invariant-loop-hold l =
    (content : Content) (rows : List ZoneRow) → AreAnswers content rows l.asked l.answers → l.asked ≡ in_order (all_named l.by l.holds)
    → l.found.items ≡ all_found (resolved_by l.by content rows) (take l.hold-index l.holds)
