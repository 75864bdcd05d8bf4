use Rattle.std.proofs.Common.{◌≡◌, take}
use Rattle.catalogue.specs.Ids.{in_order}
use Rattle.zone_plans.specs.Members.{joined}
use Rattle.plan_reports.proofs.listing.members_in.Given as goal

abbrev pub invariant-loop-index : goal.invariant-loop-index
invariant-loop-index l = l.found.keys ≡ in_order (joined (take l.index l.steps))
