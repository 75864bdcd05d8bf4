-- A plan for a zone in print: six tables, one after the other.
use Rattle.std.specs.Prelude.{ℕ, ◌++◌, Bool, List, [], ◌∷◌, Option, Some, None, true, false, codes, decimal, map, if◌then◌else◌}
use Rattle.std.specs.List.{flat_map, join_with_byte}
use Rattle.columns.specs.Columns.{text_of as text_in}
use Rattle.mcs_reader.specs.Id.{text_of}
use Rattle.zone_plans.specs.declared.holds.HoldOn.{HoldOn}
use Rattle.blocked_needs.specs.declared.blocked.BlockedNeed.{BlockedNeed}
use Rattle.zone_plans.specs.Plans.{PlanLists}
use Rattle.zone_plans.specs.declared.holds.ChosenResolver.{ChosenResolver}
use Rattle.plan_reports.specs.Members.{MemberLists}
use Rattle.questions.specs.declared.report.Report.{Report}
use Rattle.questions.specs.declared.report.Report.TheVariants.{ErrSysmods, MissingFix}

abbrev pub received_field : Bool → List ℕ
received_field received = if received then codes "YES" else codes "NO"

-- ids with commas between, or a dash if there is none
abbrev pub list_field : List (List ℕ) → List ℕ
list_field [] = codes "-"
list_field (id ∷ ids) = join_with_byte 44 (map text_of (id ∷ ids))

-- ---- the members, by step, in it ascending

abbrev pub title_of : Report → List ℕ
title_of ErrSysmods = codes "EXCEPTION SYSMOD PLAN FOR ZONE "
title_of MissingFix = codes "MISSING FIX PLAN FOR ZONE "

abbrev pub plan_columns : List (ℕ × List ℕ)
plan_columns = (1, codes "STEP") ∷ (10, codes "SYSMOD") ∷ (19, codes "RECEIVED") ∷ (28, codes "FMID") ∷ []

abbrev pub plan_fields : MemberLists → List (List ℕ)
plan_fields member = decimal member.step ∷ text_of member.id ∷ received_field member.received ∷ list_field member.fmids ∷ []

abbrev pub plan_table : Report → List ℕ → List MemberLists → List ℕ
plan_table report zone members = text_in plan_columns (Some (title_of report ++ text_of zone)) (map plan_fields members)

-- ---- why each is there: a row for each hold for which it came, then one for each other member that needs it

abbrev pub cause_columns : List (ℕ × List ℕ)
cause_columns = (1, codes "SYSMOD") ∷ (10, codes "FOR") ∷ (19, codes "REASON") ∷ (28, codes "NEEDED BY") ∷ []

abbrev pub hold_cause : List ℕ → HoldOn → List (List ℕ)
hold_cause id hold = text_of id ∷ text_of hold.sysmod ∷ text_of hold.reason ∷ codes "-" ∷ []

abbrev pub need_cause : List ℕ → List ℕ → List (List ℕ)
need_cause id other = text_of id ∷ codes "-" ∷ codes "-" ∷ text_of other ∷ []

abbrev pub causes_of : MemberLists → List (List (List ℕ))
causes_of member = map (hold_cause member.id) member.holds ++ map (need_cause member.id) member.needed_by

abbrev pub cause_table : List MemberLists → List ℕ
cause_table members = text_in cause_columns (Some (codes "CAUSES")) (flat_map causes_of members)

-- ---- what its installer is to heed

abbrev pub heed_columns : List (ℕ × List ℕ)
heed_columns = (1, codes "SYSMOD") ∷ (10, codes "KIND") ∷ (19, codes "REASON") ∷ []

abbrev pub heed_fields : List ℕ → List ℕ → List ℕ → List (List ℕ)
heed_fields id kind reason = text_of id ∷ kind ∷ text_of reason ∷ []

abbrev pub heeds_of : MemberLists → List (List (List ℕ))
heeds_of member = map (heed_fields member.id (codes "SYSTEM")) member.system ++ map (heed_fields member.id (codes "USER")) member.user

abbrev pub heed_table : List MemberLists → List ℕ
heed_table members = text_in heed_columns (Some (codes "HOLDS TO HEED")) (flat_map heeds_of members)

-- ---- the holds that no member resolves

abbrev pub hold_columns : List (ℕ × List ℕ)
hold_columns = (1, codes "SYSMOD") ∷ (10, codes "REASON") ∷ []

abbrev pub hold_fields : HoldOn → List (List ℕ)
hold_fields hold = text_of hold.sysmod ∷ text_of hold.reason ∷ []

abbrev pub unresolved_table : List HoldOn → List ℕ
unresolved_table holds = text_in hold_columns (Some (codes "HOLDS WITHOUT GOOD OR HELD RESOLVER")) (map hold_fields holds)

abbrev pub held_columns : List (ℕ × List ℕ)
held_columns = (1, codes "SYSMOD") ∷ (10, codes "REASON") ∷ (19, codes "RESOLVER") ∷ []

abbrev pub held_fields : ChosenResolver → List (List ℕ)
held_fields one = text_of one.hold.sysmod ∷ text_of one.hold.reason ∷ text_of one.resolver ∷ []

abbrev pub held_table : List ChosenResolver → List ℕ
held_table holds = text_in held_columns (Some (codes "HOLDS WITH HELD RESOLVERS")) (map held_fields holds)

-- ---- what blocks the resolvers that are HELD

abbrev pub blocked_columns : List (ℕ × List ℕ)
blocked_columns = (1, codes "SYSMOD") ∷ (10, codes "NEED") ∷ (19, codes "GIVER") ∷ []

-- the SYSMOD that would give a need, or why none does
abbrev pub giver_field : Option (List ℕ) → Bool → List ℕ
giver_field (Some id) published = text_of id
giver_field None true = codes "- NOT APPLICABLE -"
giver_field None false = codes "- NOT PUBLISHED -"

abbrev pub blocked_fields : BlockedNeed → List (List ℕ)
blocked_fields one = text_of one.sysmod ∷ text_of one.need ∷ giver_field one.giver one.published ∷ []

abbrev pub blocked_table : List BlockedNeed → List ℕ
blocked_table needs = text_in blocked_columns (Some (codes "BLOCKED NEEDS")) (map blocked_fields needs)

-- ---- the whole text

abbrev pub plan_text_of : Report → List ℕ → List MemberLists → PlanLists → List ℕ
plan_text_of report zone members plan =
    plan_table report zone members ++ cause_table members ++ heed_table members ++ unresolved_table plan.unresolved ++ held_table plan.held
    ++ blocked_table plan.blocked
