use Rattle.std.proofs.Common.{◌≡◌, map, take}
use Rattle.std.specs.List.{Contains}
use Rattle.catalogue.specs.Content.{Content}
use Rattle.reports.specs.Holds.{HoldLists}
use Rattle.zone_plans.specs.Climbs.{IsClimb}
use Rattle.zone_plans.specs.Graphs.{AreResolversOf}
use Rattle.zone_plans.specs.Plans.{placed}
use Rattle.zone_plans.proofs.placing.placed_by.Given as goal

abbrev pub invariant-loop-hold : goal.invariant-loop-hold
invariant-loop-hold l = (content : Content) → IsClimb content l.climb.ids.items l.climb.below → ((hold : HoldLists) → Contains l.holds hold → AreResolversOf l.climb.ids.items hold)
    → l.found.items ≡ map (placed content) (take l.hold-index l.holds)
