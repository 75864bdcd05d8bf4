use Rattle.std.proofs.Common.{◌≡◌, ℕ, List, take}
use Rattle.zone_lists.specs.declared.zones.ZoneRow.{ZoneRow}
use Rattle.catalogue.specs.Content.{Content}
use Rattle.plan_reports.specs.Found.{IsTold}
use Rattle.plan_reports.specs.Members.{MemberLists, members_from}
use Rattle.plan_reports.proofs.telling.told_members.Given as goal

abbrev pub invariant-loop-index : goal.invariant-loop-index
invariant-loop-index l =
    (content : Content) (rows : List ZoneRow) (at : ℕ → List ℕ → MemberLists) → IsTold content rows l.received l.plan l.found at
    → l.members.items ≡ members_from at 1 (take l.index l.plan.steps)
