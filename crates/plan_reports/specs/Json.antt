-- A plan for a zone as JSON: the compact text of an object whose keys ascend.
use Rattle.std.specs.Prelude.{ℕ, List, Option, Some, None, codes, map}
use Rattle.serde_json.specs.Data.{Data, array, boolean, member, no_members, null, number, object, string, unsigned}
use Rattle.serde_json.specs.View.{items_of}
use Rattle.serde_json.specs.Written.{compact_text}
use Rattle.mcs_reader.specs.Id.{text_of}
use Rattle.reports.specs.ChainText.{texts}
use Rattle.zone_plans.specs.declared.holds.HoldOn.{HoldOn}
use Rattle.blocked_needs.specs.declared.blocked.BlockedNeed.{BlockedNeed}
use Rattle.zone_plans.specs.Plans.{PlanLists}
use Rattle.zone_plans.specs.declared.holds.ChosenResolver.{ChosenResolver}
use Rattle.plan_reports.specs.Members.{MemberLists}
use Rattle.questions.specs.declared.report.Report.{Report}
use Rattle.questions.specs.Report.{name_of}

-- a hold by its SYSMOD and its reason
abbrev pub hold_data : HoldOn → Data
hold_data hold = object (member (codes "reason") (string (text_of hold.reason)) (member (codes "sysmod") (string (text_of hold.sysmod)) no_members))

-- a hold with the resolver that is chosen for it
abbrev pub chosen_data : ChosenResolver → Data
chosen_data one =
    object (member (codes "reason") (string (text_of one.hold.reason))
    (member (codes "resolver") (string (text_of one.resolver))
    (member (codes "sysmod") (string (text_of one.hold.sysmod)) no_members)))

-- an id, or null if there is none
abbrev pub id_data : Option (List ℕ) → Data
id_data None = null
id_data (Some id) = string (text_of id)

-- the need that blocks a SYSMOD, and what would give it
abbrev pub blocked_data : BlockedNeed → Data
blocked_data one =
    object (member (codes "giver") (id_data one.giver)
    (member (codes "need") (string (text_of one.need))
    (member (codes "published") (boolean one.published)
    (member (codes "sysmod") (string (text_of one.sysmod)) no_members))))

-- a member, with why it is there and what to heed
abbrev pub member_data : MemberLists → Data
member_data one =
    object (member (codes "fmids") (array (texts one.fmids))
    (member (codes "holds") (array (items_of (map hold_data one.holds)))
    (member (codes "id") (string (text_of one.id))
    (member (codes "needed_by") (array (texts one.needed_by))
    (member (codes "received") (boolean one.received)
    (member (codes "step") (number (unsigned one.step))
    (member (codes "system") (array (texts one.system))
    (member (codes "user") (array (texts one.user)) no_members))))))))

abbrev pub plan_data : Report → List ℕ → List MemberLists → PlanLists → Data
plan_data report zone members plan =
    object (member (codes "blocked") (array (items_of (map blocked_data plan.blocked)))
    (member (codes "held") (array (items_of (map chosen_data plan.held)))
    (member (codes "members") (array (items_of (map member_data members)))
    (member (codes "report") (string (name_of report))
    (member (codes "resolved") (array (items_of (map chosen_data plan.resolved)))
    (member (codes "unresolved") (array (items_of (map hold_data plan.unresolved)))
    (member (codes "zone") (string (text_of zone)) no_members)))))))

-- the text of a plan on a zone
abbrev pub plan_json_of : Report → List ℕ → List MemberLists → PlanLists → List ℕ
plan_json_of report zone members plan = compact_text (plan_data report zone members plan)
