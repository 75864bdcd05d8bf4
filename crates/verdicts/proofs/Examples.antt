-- Worked examples of the definitions: verdicts on the SYSMODs of small contents.
use Rattle.std.proofs.Common.{◌≡◌, ℕ, List, [], ◌∷◌, ◌++◌, codes, Some, None, refl}
use Rattle.mcs_reader.specs.Id.{padded}
use Rattle.holddata.specs.declared.hold.Hold.{Hold}
use Rattle.holddata.specs.declared.key.Kind.TheVariants.{ErrorHold}
use Rattle.zone_lists.specs.declared.zones.ZoneRow.{ZoneRow}
use Rattle.zone_lists.specs.declared.zones.ZoneState.TheVariants.{Accepted, Applied, Superseded}
use Rattle.catalogue.specs.Content.{Content}
use Rattle.catalogue.specs.declared.sysmod.Sysmod.{Sysmod}
use Rattle.catalogue.specs.declared.sysmod.SysmodKind.TheVariants.{Ptf}
use Rattle.supersede.proofs.Examples.{apar, conditional, first, function, other_function, required, second, with_other, zone}
use Rattle.verdicts.specs.Verdicts.{good, held, lack, verdict_of}

abbrev third : List ℕ
third = padded (codes "UA10004")

abbrev later_apar : List ℕ
later_apar = padded (codes "AA30003")

-- a PTF for the function
abbrev ptf : List ℕ → List (List ℕ) → List (List ℕ) → List (List ℕ) → Sysmod
ptf id pre req sup = record { id = id; kind = Ptf; fmids = function ∷ []; pre = pre; req = req; conds = []; sup = sup }

abbrev error : List ℕ → List ℕ → Hold
error id reason = record { key = record { sysmod = id; kind = ErrorHold; reason = reason }; fmid = Some function; class = None; resolver = None; dated = None; categories = [] }

-- an error of the first PTF, which the second fixes
abbrev base : List Sysmod
base = ptf first [] [] [] ∷ ptf second (first ∷ []) [] (apar ∷ []) ∷ []

abbrev published : Content
published = record { sysmods = base; holds = error first apar ∷ [] }

-- an error of the second too
abbrev second_held : Content
second_held = record { sysmods = base; holds = error first apar ∷ error second later_apar ∷ [] }

-- and a third, which needs the second and fixes its error
abbrev second_fixed : Content
second_fixed = record { sysmods = base ++ ptf third (second ∷ []) [] (later_apar ∷ []) ∷ []; holds = error first apar ∷ error second later_apar ∷ [] }

-- two PTFs that each go with the other
abbrev each_other : Content
each_other = record { sysmods = ptf first [] (second ∷ []) [] ∷ ptf second [] (first ∷ []) [] ∷ []; holds = [] }

-- a zone with the function alone
abbrev bare_zone : List ZoneRow
bare_zone = record { sysmod = function; state = Applied } ∷ []

what_is_there_is_not_chosen : verdict_of published zone second ≡ good (second ∷ [])
what_is_there_is_not_chosen = refl

what_is_not_there_is_chosen_too : verdict_of published bare_zone second ≡ good (first ∷ second ∷ [])
what_is_not_there_is_chosen_too = refl

an_error_that_is_fixed_together : verdict_of published bare_zone first ≡ good (first ∷ second ∷ [])
an_error_that_is_fixed_together = refl

an_error_that_nothing_fixes : verdict_of second_held zone second ≡ held later_apar
an_error_that_nothing_fixes = refl

the_fix_needs_what_it_fixes : verdict_of second_fixed zone second ≡ good (second ∷ third ∷ [])
the_fix_needs_what_it_fixes = refl

each_with_the_other : verdict_of each_other bare_zone second ≡ good (first ∷ second ∷ [])
each_with_the_other = refl

not_catalogued : verdict_of published zone apar ≡ lack
not_catalogued = refl

another_function : verdict_of published [] first ≡ lack
another_function = refl

-- ---- a requisite where another function is installed

-- a PTF that needs another one where the other function is installed
abbrev with_condition : Sysmod
with_condition = record { id = conditional; kind = Ptf; fmids = function ∷ []; pre = []; req = []; conds = record { fmid = other_function; need = required } ∷ []; sup = [] }

abbrev pub both_published : Content
both_published = record { sysmods = with_condition ∷ ptf required [] [] [] ∷ []; holds = [] }

abbrev one_published : Content
one_published = record { sysmods = with_condition ∷ []; holds = [] }

without_the_function_alone : verdict_of both_published bare_zone conditional ≡ good (conditional ∷ [])
without_the_function_alone = refl

where_it_is_applied_both : verdict_of both_published (with_other Applied) conditional ≡ good (conditional ∷ required ∷ [])
where_it_is_applied_both = refl

where_it_is_accepted_both : verdict_of both_published (with_other Accepted) conditional ≡ good (conditional ∷ required ∷ [])
where_it_is_accepted_both = refl

where_it_is_superseded_alone : verdict_of both_published (with_other Superseded) conditional ≡ good (conditional ∷ [])
where_it_is_superseded_alone = refl

not_published_it_blocks : verdict_of one_published (with_other Applied) conditional ≡ held required
not_published_it_blocks = refl

but_not_without_the_function : verdict_of one_published bare_zone conditional ≡ good (conditional ∷ [])
but_not_without_the_function = refl

nor_where_it_is_superseded : verdict_of one_published (with_other Superseded) conditional ≡ good (conditional ∷ [])
nor_where_it_is_superseded = refl
