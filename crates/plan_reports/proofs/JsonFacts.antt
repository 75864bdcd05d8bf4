-- Values and the data that they stand for.
use Rattle.std.proofs.Common.{◌≡◌, ℕ, List, false, Option, Some, None, refl}
use Rattle.serde_json.specs.Written.{has_float}
use Rattle.reports.proofs.ChainFacts.{items_plain, texts_plain}
use Rattle.zone_plans.specs.declared.holds.HoldOn.{HoldOn}
use Rattle.blocked_needs.specs.declared.blocked.BlockedNeed.{BlockedNeed}
use Rattle.zone_plans.specs.Plans.{PlanLists}
use Rattle.zone_plans.specs.declared.holds.ChosenResolver.{ChosenResolver}
use Rattle.plan_reports.specs.Members.{MemberLists}
use Rattle.questions.specs.declared.report.Report.{Report}
use Rattle.plan_reports.specs.Json.{blocked_data, chosen_data, hold_data, id_data, member_data, plan_data}

-- ---- no number is a float

hold_plain : (hold : HoldOn) → has_float (hold_data hold) ≡ false
hold_plain hold = refl

chosen_plain : (one : ChosenResolver) → has_float (chosen_data one) ≡ false
chosen_plain one = refl

id_plain : (id : Option (List ℕ)) → has_float (id_data id) ≡ false
id_plain None = refl
id_plain (Some id) = refl

blocked_plain : (one : BlockedNeed) → has_float (blocked_data one) ≡ false
blocked_plain one = rw (id_plain one.giver) refl

member_plain : (one : MemberLists) → has_float (member_data one) ≡ false
member_plain one = rw (texts_plain one.fmids, items_plain hold_data hold_plain one.holds, texts_plain one.needed_by, texts_plain one.system, texts_plain one.user) refl

pub plan_plain : (report : Report) (zone : List ℕ) (members : List MemberLists) (plan : PlanLists) → has_float (plan_data report zone members plan) ≡ false
plan_plain report zone members plan =
    rw (
      items_plain blocked_data blocked_plain plan.blocked,
      items_plain chosen_data chosen_plain plan.held,
      items_plain member_data member_plain members,
      items_plain chosen_data chosen_plain plan.resolved,
      items_plain hold_data hold_plain plan.unresolved,
    ) refl
