-- The members of a plan: why each is there, and which holds its installer should heed.
use Rattle.std.specs.Prelude.{ℕ, ◌+◌, ◌++◌, ◌&&◌, not, Bool, List, [], ◌∷◌, filter, map}
use Rattle.holddata.specs.declared.key.Kind.TheVariants.{SystemHold, UserHold}
use Rattle.zone_lists.specs.declared.zones.ZoneRow.{ZoneRow}
use Rattle.catalogue.specs.Content.{Content, holds_on, record_of}
use Rattle.catalogue.specs.Ids.{in_order, same_id}
use Rattle.supersede.specs.Giving.{fmids_of, gives}
use Rattle.supersede.specs.Reach.{has}
use Rattle.reports.specs.ChainText.{reasons_in}
use Rattle.zone_plans.specs.declared.holds.HoldOn.{HoldOn}
use Rattle.zone_plans.specs.Members.{joined, needs_id}
use Rattle.zone_plans.specs.Plans.{PlanLists}
use Rattle.zone_plans.specs.declared.holds.ChosenResolver.{ChosenResolver}

-- A member as contracts see it: the step in which it is installed, counted from 1; its functions; whether the client has received
-- it; the holds for which it came; the other members that need it; and the reasons of the SYSTEM and USER holds on it.
pub record MemberLists : Type 0 where
  pub step : ℕ
  pub id : List ℕ
  pub fmids : List (List ℕ)
  pub received : Bool
  pub holds : List HoldOn
  pub needed_by : List (List ℕ)
  pub system : List (List ℕ)
  pub user : List (List ℕ)

-- the holds for which a member came: those whose chosen resolver it gives
abbrev pub holds_for : Content → List ChosenResolver → List ℕ → List HoldOn
holds_for content resolved id = map (λ one. one.hold) (filter (λ one. gives content id one.resolver) resolved)

-- the other members that need it
abbrev pub needed_by_of : Content → List ZoneRow → List (List ℕ) → List ℕ → List (List ℕ)
needed_by_of content rows members id = filter (λ other. not (same_id other id) && needs_id content rows other id) members

-- a member of a step
abbrev pub member_at : Content → List ZoneRow → List (List ℕ) → List ChosenResolver → List (List ℕ) → ℕ → List ℕ → MemberLists
member_at content rows received resolved members step id = record {
  step = step;
  id = id;
  fmids = fmids_of (record_of content id);
  received = has received id;
  holds = holds_for content resolved id;
  needed_by = needed_by_of content rows members id;
  system = reasons_in SystemHold (holds_on content id);
  user = reasons_in UserHold (holds_on content id);
}

-- the members of some steps, numbered from a number on
abbrev pub members_from : (ℕ → List ℕ → MemberLists) → ℕ → List (List (List ℕ)) → List MemberLists
members_from at number [] = []
members_from at number (step ∷ later) = map (at number) step ++ members_from at (number + 1) later

-- the members of a plan, by step, in each ascending
abbrev pub plan_members_of : Content → List ZoneRow → List (List ℕ) → PlanLists → List MemberLists
plan_members_of content rows received plan =
    members_from (member_at content rows received plan.resolved (in_order (joined plan.steps))) 1 plan.steps
