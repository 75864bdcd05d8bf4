-- What is told of a plan.
use Rattle.std.proofs.Common.{◌≡◌, ◌∙◌, ℕ, List, ap}
use Rattle.zone_lists.specs.declared.zones.ZoneRow.{ZoneRow}
use Rattle.catalogue.specs.Content.{Content}
use Rattle.reports.specs.Holds.{HoldLists}
use Rattle.zone_plans.specs.Plans.{IsZonePlan, PlanLists, plan_of}
use Rattle.questions.specs.declared.report.Report.{Report}
use Rattle.plan_reports.specs.Replies.{told_as}
use Rattle.questions.specs.declared.wanted.Form.{Form}

-- what is told of a plan of some holds, whatever they are, is what is told of the plan of these
pub told_of : (form : Form) (report : Report) (received : List (List ℕ)) (name : List ℕ) (content : Content) (rows : List ZoneRow) (holds : List HoldLists) (plan : PlanLists) (text : List ℕ)
    → ((content : Content) (rows : List ZoneRow) (holds : List HoldLists) → IsZonePlan content rows holds plan → text ≡ told_as form content rows received report name plan)
    → IsZonePlan content rows holds plan → text ≡ told_as form content rows received report name (plan_of content rows holds)
told_of form report received name content rows holds plan text told is =
    told content rows holds is ∙ ap (told_as form content rows received report name) is.are
