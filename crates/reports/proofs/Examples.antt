-- Worked examples of the definitions: the rows of both reports, and verdicts as JSON.
use Rattle.std.proofs.Common.{◌≡◌, ℕ, true, false, List, [], ◌∷◌, codes, Option, Some, None, refl}
use Rattle.serde_json.proofs.OnLiterals.{serde_json_on_literals}
use Rattle.mcs_reader.specs.Id.{padded}
use Rattle.holddata.specs.declared.hold.Hold.{Hold}
use Rattle.holddata.specs.declared.key.Kind.{Kind}
use Rattle.holddata.specs.declared.key.Kind.TheVariants.{ErrorHold, FixcatHold, SystemHold}
use Rattle.catalogue.specs.Content.{Content}
use Rattle.catalogue.specs.declared.sysmod.Sysmod.{Sysmod}
use Rattle.catalogue.specs.declared.sysmod.SysmodKind.TheVariants.{Func, Ptf}
use Rattle.supersede.proofs.Examples.{apar, first, function, second, third, zone}
use Rattle.verdicts.specs.Verdicts.{verdict_of}
use Rattle.verdicts.specs.declared.verdict.Status.{Status}
use Rattle.verdicts.specs.declared.verdict.Status.TheVariants.{Good, Held, Lack}
use Rattle.reports.specs.ChainText.{chain_text_of}
use Rattle.reports.specs.ErrRows.{err_rows_of}
use Rattle.reports.specs.MissingRows.{missing_rows_of}
use Rattle.reports.specs.declared.rows.ErrRow.{ErrRow}

abbrev stranger : List ℕ
stranger = padded (codes "UA10008")

abbrev other_apar : List ℕ
other_apar = padded (codes "AA20009")

abbrev hold : List ℕ → Kind → List ℕ → Option (List ℕ) → List (List ℕ) → Hold
hold sysmod kind reason resolver categories = record {
  key = record { sysmod = sysmod; kind = kind; reason = reason };
  fmid = Some function;
  class = None;
  resolver = resolver;
  dated = None;
  categories = categories;
}

abbrev ptf : List ℕ → List ℕ → List (List ℕ) → List (List ℕ) → Sysmod
ptf id fmid pre sup = record { id = id; kind = Ptf; fmids = fmid ∷ []; pre = pre; req = []; conds = []; sup = sup }

abbrev base : List Sysmod
base = record { id = function; kind = Func; fmids = []; pre = []; req = []; conds = []; sup = [] } ∷ ptf first function [] [] ∷ ptf second function (first ∷ []) (apar ∷ []) ∷ []

abbrev error : Hold
error = hold first ErrorHold apar None []

abbrev row : List ℕ → Option (List ℕ) → Option Status → ErrRow
row reason resolver status = record { fmid = Some function; sysmod = first; reason = reason; resolver = resolver; status = status; received = Some false; class = None }

-- what fixes the error is superseded by a third PTF
abbrev superseded : Content
superseded = record { sysmods = record { id = function; kind = Func; fmids = []; pre = []; req = []; conds = []; sup = [] } ∷ ptf first function [] [] ∷ ptf second function (first ∷ []) (apar ∷ []) ∷ ptf third function [] (second ∷ []) ∷ []; holds = error ∷ [] }

each_candidate_that_gives_the_reason : err_rows_of superseded zone [] (error ∷ []) ≡ row apar (Some second) (Some Good) ∷ row apar (Some third) (Some Good) ∷ []
each_candidate_that_gives_the_reason = refl

-- what fixes the error is held in error itself
abbrev held_too : Content
held_too = record { sysmods = base; holds = error ∷ hold second ErrorHold other_apar None [] ∷ [] }

a_candidate_that_is_held : err_rows_of held_too zone [] (error ∷ []) ≡ row apar (Some second) (Some Held) ∷ []
a_candidate_that_is_held = refl

-- a second error is fixed for another function alone
abbrev for_another : Content
for_another = record { sysmods = ptf stranger (padded (codes "HXX0001")) [] (other_apar ∷ []) ∷ []; holds = [] }

resolvers_of_another_function_are_not_listed : err_rows_of for_another zone [] (hold first ErrorHold other_apar None [] ∷ [])
    ≡ record { fmid = Some function; sysmod = first; reason = other_apar; resolver = None; status = None; received = None; class = None } ∷ []
resolvers_of_another_function_are_not_listed = refl

a_reason_that_is_there_has_no_row : err_rows_of held_too zone [] (hold first ErrorHold function None [] ∷ []) ≡ []
a_reason_that_is_there_has_no_row = refl

abbrev fix : List ℕ
fix = padded (codes "UA10009")

a_resolver_that_is_not_catalogued : missing_rows_of held_too zone (fix ∷ []) (codes "ibm.device.*" ∷ [])
    (hold function FixcatHold other_apar (Some fix) (codes "IBM.Device" ∷ codes "IBM.Device.Server" ∷ []) ∷ [])
    ≡ record { category = codes "IBM.Device.Server"; sysmod = function; reason = other_apar; resolver = Some fix; status = Some Lack; received = Some true } ∷ []
a_resolver_that_is_not_catalogued = refl

-- the second PTF wants something done before it is installed
abbrev with_action : Content
with_action = record { sysmods = base; holds = error ∷ hold second SystemHold (padded (codes "IPL")) None [] ∷ [] }

a_plan_with_what_to_heed : chain_text_of with_action (padded (codes "TGT1")) second (verdict_of with_action zone second)
    ≡ codes "{\"plan\":[{\"id\":\"UA10002\",\"system\":[\"IPL\"],\"user\":[]}],\"status\":\"GOOD\",\"sysmod\":\"UA10002\",\"zone\":\"TGT1\"}"
unfolding serde_json_on_literals
a_plan_with_what_to_heed = refl

what_blocks_a_sysmod : chain_text_of held_too (padded (codes "TGT1")) second (verdict_of held_too zone second)
    ≡ codes "{\"blocked\":\"AA20009\",\"status\":\"HELD\",\"sysmod\":\"UA10002\",\"zone\":\"TGT1\"}"
unfolding serde_json_on_literals
what_blocks_a_sysmod = refl
