-- No part of what is promised: private contracts cite it. How the causes of each member are found.
use Rattle.std.specs.Prelude.{◌≡◌, ◌<◌, ◌++◌, ◌==◌, ℕ, zero, suc, Bool, false, not, List, [], ◌∷◌, Option, Some, None, filter, length, map, if◌then◌else◌, slice_index_or, ◌-◌}
use Rattle.std.specs.Global.{Vec}
use Rattle.std.specs.List.{filter_map, list_any, slice_get}
use Rattle.zone_lists.specs.declared.zones.ZoneRow.{ZoneRow}
use Rattle.catalogue.specs.Content.{Content}
use Rattle.catalogue.specs.Ids.{same_id}
use Rattle.supersede.specs.Giving.{needs_in}
use Rattle.supersede.specs.Reach.{has}
use Rattle.requisites.specs.Nodes.{row}
use Rattle.verdicts.specs.Candidates.{candidates_unless_there}
use Rattle.verdicts.specs.Indices.{id_at, RowsAre}
use Rattle.zone_plans.specs.declared.holds.HoldOn.{HoldOn}
use Rattle.zone_plans.specs.Findings.{AreFoundOf, known_givers}
use Rattle.zone_plans.specs.Plans.{PlanLists}
use Rattle.zone_plans.specs.Readings.{reading_of}
use Rattle.zone_plans.specs.declared.holds.ChosenResolver.{ChosenResolver}
use Rattle.plan_reports.specs.Members.{MemberLists}

-- ---- what gives an id

-- the answer, or none
abbrev pub or_none : Option (List (List ℕ)) → List (List ℕ)
or_none None = []
or_none (Some ids) = ids

-- the candidates that give an id, or none if it is there
abbrev pub absent_givers : Content → List ZoneRow → List ℕ → List (List ℕ)
absent_givers content rows id = or_none (candidates_unless_there content rows id)

-- whether something gives one of some needs
abbrev pub gives_one : (List ℕ → List (List ℕ)) → List (List ℕ) → List ℕ → Bool
gives_one f needs id = list_any (λ need. has (f need) id) needs

-- ---- places in a list

-- the indices below a number that pass a test
abbrev pub places : (ℕ → Bool) → ℕ → List ℕ
places test zero = []
places test (suc n) = places test n ++ (if test n then n ∷ [] else [])

-- whether a row ends with an index
abbrev pub is_some_of : Option ℕ → ℕ → Bool
is_some_of None place = false
is_some_of (Some last) place = last == place

abbrev pub ends_with : List ℕ → ℕ → Bool
ends_with places place = is_some_of (slice_get places (length places - 1)) place

-- an index is added unless the row ends with it
abbrev pub with_once : List ℕ → ℕ → List ℕ
with_once places place = if ends_with places place then places else places ++ place ∷ []

abbrev pub once : Bool → ℕ → List ℕ → List ℕ
once add place places = if add then with_once places place else places

abbrev pub places_of : List (Vec ℕ) → List (List ℕ)
places_of lists = map (λ list. list.items) lists

-- an index is added once to the row of each id that passes a test
pub record ArePut (test : List ℕ → Bool) (ids : List (List ℕ)) (place : ℕ) (old new : List (List ℕ)) : Type 0 where
  pub len : length new ≡ length old
  pub each : (q : ℕ) → q < length ids → row new q ≡ once (test (id_at ids q)) place (row old q)

-- the same for the ids in an answer
abbrev pub ArePutBy : Option (List (List ℕ)) → List (List ℕ) → ℕ → List (List ℕ) → List (List ℕ) → Type 0
ArePutBy None ids place old new = new ≡ old
ArePutBy (Some givers) ids place old new = ArePut (has givers) ids place old new

-- the row of each id has the indices below a number that pass a test of the id
abbrev pub ArePlaces : (ℕ → List ℕ → Bool) → List (List ℕ) → ℕ → List (List ℕ) → Type 0
ArePlaces test ids n rows = RowsAre (λ q found. found ≡ places (λ k. test k (id_at ids q)) n) (length ids) rows

-- ---- what needs a member, and for which holds it came

-- whether a member gives what the one at an index needs
abbrev pub is_needed_at : Content → List ZoneRow → List (List ℕ) → ℕ → List ℕ → Bool
is_needed_at content rows ids k id = gives_one (absent_givers content rows) (needs_in content rows (id_at ids k)) id

abbrev pub AreNeeding : Content → List ZoneRow → List (List ℕ) → List (List ℕ) → Type 0
AreNeeding content rows ids needing = ArePlaces (is_needed_at content rows ids) ids (length ids) needing

-- the resolver of a hold at an index
abbrev pub no_resolver : ChosenResolver
no_resolver = record { hold = record { sysmod = []; reason = [] }; resolver = [] }

abbrev pub resolver_at : List ChosenResolver → ℕ → List ℕ
resolver_at resolved k = (slice_index_or resolved k no_resolver).resolver

-- whether a member gives it
abbrev pub resolves_at : Content → List ZoneRow → List ChosenResolver → ℕ → List ℕ → Bool
resolves_at content rows resolved k id = has (known_givers content rows (resolver_at resolved k)) id

abbrev pub AreResolving : Content → List ZoneRow → List (List ℕ) → List ChosenResolver → List (List ℕ) → Type 0
AreResolving content rows ids resolved resolving =
    ArePlaces (resolves_at content rows resolved) ids (length resolved) resolving

-- ---- what is told

-- the findings on the members: their ids, and by index the members that need each and the holds for which it came
pub record FoundLists : Type 0 where
  pub ids : List (List ℕ)
  pub needing : List (List ℕ)
  pub resolving : List (List ℕ)

-- they are found for each
pub record AreFound (content : Content) (rows : List ZoneRow) (resolved : List ChosenResolver) (found : FoundLists) : Type 0 where
  pub needing : AreNeeding content rows found.ids found.needing
  pub resolving : AreResolving content rows found.ids resolved found.resolving

-- the entries at some indices
abbrev pub picked : {X : Type 0} → List X → List ℕ → List X
picked xs places = filter_map (slice_get xs) places

-- the ids at some indices but for one
abbrev pub others_at : List (List ℕ) → List ℕ → List ℕ → List (List ℕ)
others_at ids id places = filter (λ other. not (same_id other id)) (picked ids places)

abbrev pub holds_at : List ChosenResolver → List ℕ → List HoldOn
holds_at resolved places = map (λ one. one.hold) (picked resolved places)

-- the member at an index
abbrev pub told_at : Content → List ZoneRow → List (List ℕ) → List ChosenResolver → FoundLists → ℕ → ℕ → MemberLists
told_at content rows received resolved found step q = record {
  step = step;
  id = id_at found.ids q;
  fmids = (reading_of content rows (id_at found.ids q)).fmids;
  received = has received (id_at found.ids q);
  holds = holds_at resolved (row found.resolving q);
  needed_by = others_at found.ids (id_at found.ids q) (row found.needing q);
  system = (reading_of content rows (id_at found.ids q)).system;
  user = (reading_of content rows (id_at found.ids q)).user;
}

-- these are the members, and each is among what was found for the plan
pub record IsTold (content : Content) (rows : List ZoneRow) (received : List (List ℕ)) (plan : PlanLists) (found : FoundLists) (at : ℕ → List ℕ → MemberLists) : Type 0 where
  pub read : AreFoundOf content rows plan.findings found.ids
  pub each : (step q : ℕ) → q < length found.ids → at step (id_at found.ids q) ≡ told_at content rows received plan.resolved found step q
