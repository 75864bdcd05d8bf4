use Rattle.std.proofs.Common.{◌≡◌, ◌++◌, ℕ, List, map, take}
use Rattle.zone_lists.specs.declared.zones.ZoneRow.{ZoneRow}
use Rattle.catalogue.specs.Content.{Content}
use Rattle.plan_reports.specs.Found.{IsTold}
use Rattle.plan_reports.specs.Members.{MemberLists}
use Rattle.plan_reports.proofs.telling.push_step.Given as goal

abbrev pub invariant-loop-id : goal.invariant-loop-id
invariant-loop-id l =
    (content : Content) (rows : List ZoneRow) (at : ℕ → List ℕ → MemberLists) → IsTold content rows l.received l.plan l.found at
    → l.members.items ≡ l.initial.members.items ++ map (at l.number) (take l.id-index l.step)
