-- Worked examples of the definitions: what gives what, what is there, what may be installed and what it needs.
use Rattle.std.proofs.Common.{◌≡◌, ℕ, true, false, List, [], ◌∷◌, codes, Some, None, refl}
use Rattle.mcs_reader.specs.Id.{padded}
use Rattle.holddata.specs.declared.key.Kind.TheVariants.{ErrorHold}
use Rattle.zone_lists.specs.Installed.{is_installed}
use Rattle.zone_lists.specs.declared.zones.ZoneRow.{ZoneRow}
use Rattle.zone_lists.specs.declared.zones.ZoneState.{ZoneState}
use Rattle.zone_lists.specs.declared.zones.ZoneState.TheVariants.{Accepted, Applied, Superseded}
use Rattle.catalogue.specs.Content.{Content}
use Rattle.catalogue.specs.declared.sysmod.Sysmod.{Sysmod}
use Rattle.catalogue.specs.declared.sysmod.SysmodKind.TheVariants.{Func, Ptf}
use Rattle.supersede.specs.Giving.{always_needs, gives, givers_of, is_candidate, is_there, may_need, needs_in}

abbrev pub function : List ℕ
function = padded (codes "HBB7790")

abbrev pub first : List ℕ
first = padded (codes "UA10001")

abbrev pub second : List ℕ
second = padded (codes "UA10002")

abbrev pub third : List ℕ
third = padded (codes "UA10005")

abbrev pub apar : List ℕ
apar = padded (codes "AA20002")

-- a PTF for the function, which needs some and supersedes some
abbrev ptf : List ℕ → List (List ℕ) → List (List ℕ) → Sysmod
ptf id pre sup = record { id = id; kind = Ptf; fmids = function ∷ []; pre = pre; req = []; conds = []; sup = sup }

-- an error of the first PTF, which the second fixes; the third supersedes the second
abbrev published : Content
published = record {
  sysmods = record { id = function; kind = Func; fmids = []; pre = []; req = []; conds = []; sup = [] } ∷ ptf first [] [] ∷ ptf second (first ∷ []) (apar ∷ []) ∷ ptf third [] (second ∷ []) ∷ [];
  holds = record { key = record { sysmod = first; kind = ErrorHold; reason = apar }; fmid = Some function; class = None; resolver = None; dated = None; categories = [] } ∷ [];
}

-- a zone with the function and the first PTF
abbrev pub zone : List ZoneRow
zone = record { sysmod = function; state = Applied } ∷ record { sysmod = first; state = Applied } ∷ []

itself_and_through_another : givers_of published apar ≡ second ∷ third ∷ []
itself_and_through_another = refl

every_one_gives_itself : givers_of published first ≡ first ∷ []
every_one_gives_itself = refl

what_is_not_catalogued_gives_nothing : gives published apar apar ≡ false
what_is_not_catalogued_gives_nothing = refl

not_the_other_way : gives published first third ≡ false
not_the_other_way = refl

the_error_is_not_fixed : is_there published zone apar ≡ false
the_error_is_not_fixed = refl

fixed_by_one_that_is_installed : is_there published (record { sysmod = third; state = Applied } ∷ []) apar ≡ true
fixed_by_one_that_is_installed = refl

not_by_one_that_is_superseded_itself : is_there published (record { sysmod = third; state = Superseded } ∷ []) apar ≡ false
not_by_one_that_is_superseded_itself = refl

listed_in_any_state : is_there published (record { sysmod = apar; state = Superseded } ∷ []) apar ≡ true
listed_in_any_state = refl

listed_and_not_installed : is_installed (record { sysmod = apar; state = Superseded } ∷ []) apar ≡ false
listed_and_not_installed = refl

its_function_is_installed : is_candidate published zone second ≡ true
its_function_is_installed = refl

a_function_is_no_candidate : is_candidate published zone function ≡ false
a_function_is_no_candidate = refl

an_error_is_a_need : may_need published first ≡ apar ∷ []
an_error_is_a_need = refl

a_requisite_is_a_need : may_need published second ≡ first ∷ []
a_requisite_is_a_need = refl

-- ---- a requisite where another function is installed

abbrev pub other_function : List ℕ
other_function = padded (codes "HXX0001")

abbrev pub conditional : List ℕ
conditional = padded (codes "UA10020")

abbrev pub required : List ℕ
required = padded (codes "UA10021")

-- a PTF that needs the first, and another one where the other function is installed
abbrev with_condition : Content
with_condition = record {
  sysmods =
      record { id = conditional; kind = Ptf; fmids = function ∷ []; pre = first ∷ []; req = []; conds = record { fmid = other_function; need = required } ∷ []; sup = [] }
      ∷ ptf required [] [] ∷ [];
  holds = [];
}

-- a zone with both functions, the other one in a state
abbrev pub with_other : ZoneState → List ZoneRow
with_other state = record { sysmod = function; state = Applied } ∷ record { sysmod = other_function; state = state } ∷ []

whatever_the_zone_it_needs_its_pre : always_needs with_condition conditional ≡ first ∷ []
whatever_the_zone_it_needs_its_pre = refl

where_the_function_is_not_installed : needs_in with_condition zone conditional ≡ first ∷ []
where_the_function_is_not_installed = refl

where_it_is_applied : needs_in with_condition (with_other Applied) conditional ≡ first ∷ required ∷ []
where_it_is_applied = refl

where_it_is_accepted : needs_in with_condition (with_other Accepted) conditional ≡ first ∷ required ∷ []
where_it_is_accepted = refl

where_it_is_superseded : needs_in with_condition (with_other Superseded) conditional ≡ first ∷ []
where_it_is_superseded = refl

a_frame_follows_it_anyway : may_need with_condition conditional ≡ first ∷ required ∷ []
a_frame_follows_it_anyway = refl

-- ---- a ring

-- two that supersede each other give each other, and the search ends
abbrev ring : Content
ring = record { sysmods = ptf first [] (second ∷ []) ∷ ptf second [] (first ∷ []) ∷ []; holds = [] }

in_a_ring : givers_of ring first ≡ first ∷ second ∷ []
in_a_ring = refl
