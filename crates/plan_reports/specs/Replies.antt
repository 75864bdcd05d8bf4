-- The plans for the two reports in print and as JSON, from the published content, the zone and the lists.
use Rattle.std.specs.Prelude.{ℕ, List}
use Rattle.holddata.specs.declared.hold.Hold.{Hold}
use Rattle.zone_lists.specs.declared.zones.ZoneRow.{ZoneRow}
use Rattle.catalogue.specs.Content.{Content}
use Rattle.questions.specs.declared.report.Report.{Report}
use Rattle.questions.specs.declared.report.Report.TheVariants.{ErrSysmods, MissingFix}
use Rattle.questions.specs.declared.wanted.Form.{Form}
use Rattle.questions.specs.declared.wanted.Form.TheVariants.{Text, Json}
use Rattle.reports.specs.Holds.{HoldLists, err_holds_of, missing_holds_of}
use Rattle.zone_plans.specs.Plans.{PlanLists, plan_of}
use Rattle.plan_reports.specs.Members.{MemberLists, plan_members_of}
use Rattle.plan_reports.specs.Json.{plan_json_of}
use Rattle.plan_reports.specs.Tables.{plan_text_of}

-- the text of a plan and its members, in a form
abbrev pub written_as : Form → Report → List ℕ → List MemberLists → PlanLists → List ℕ
written_as Text report name members plan = plan_text_of report name members plan
written_as Json report name members plan = plan_json_of report name members plan

-- the text of a plan, with the causes and holds of its members
abbrev pub told_as : Form → Content → List ZoneRow → List (List ℕ) → Report → List ℕ → PlanLists → List ℕ
told_as form content rows received report name plan = written_as form report name (plan_members_of content rows received plan) plan

-- the holds of a report: ERROR holds on installed SYSMODs; or FIXCAT holds on them, for the categories that a pattern
-- matches
abbrev pub holds_of : Report → Content → List ZoneRow → List (List ℕ) → List (List ℕ) → List Hold → List HoldLists
holds_of ErrSysmods content rows received patterns holds = err_holds_of content rows received holds
holds_of MissingFix content rows received patterns holds = missing_holds_of content rows received patterns holds

-- the plan for a report on a zone, in a form
abbrev pub plan_answer_of : Report → Form → Content → List ZoneRow → List (List ℕ) → List (List ℕ) → List Hold → List ℕ → List ℕ
plan_answer_of report form content rows received patterns holds name =
    told_as form content rows received report name (plan_of content rows (holds_of report content rows received patterns holds))
