-- No part of what is promised: private contracts cite it. How the holds and the lines of the reports are found.
use Rattle.std.specs.Prelude.{ℕ, List, [], ◌∷◌, ◌++◌, Option, Some, None, filter_map, map, option_map, if◌then◌else◌}
use Rattle.std.specs.Borrow.{Bor}
use Rattle.std.specs.BTreeMap.{insert_entry}
use Rattle.std.specs.Cmp.Lexicographic.{slice_cmp}
use Rattle.std.specs.List.{cons_option, flat_map, fold}
use Rattle.std.specs.Option.{option_cmp}
use Rattle.std.specs.Ordering.{nat_cmp, ordering_then}
use Rattle.std.specs.declared.cmp.Ordering.{Ordering}
use Rattle.holddata.specs.declared.hold.Hold.{Hold}
use Rattle.zone_lists.specs.declared.zones.ZoneRow.{ZoneRow}
use Rattle.catalogue.specs.Content.{Content}
use Rattle.catalogue.specs.Ids.{id_cmp, in_order}
use Rattle.verdicts.specs.declared.verdict.Status.{Status}
use Rattle.reports.specs.Holds.{HoldLists, held_by}
use Rattle.reports.specs.Lines.{GroupParts, group_of, missing_groups}
use Rattle.reports.specs.MissingRows.{Missing, is_resolver_there, resolvers_by}
use Rattle.reports.specs.Resolvers.{unless_there}
use Rattle.reports.specs.declared.asking.By.{By}
use Rattle.reports.specs.declared.asking.By.TheVariants.{Reason, ReasonOrResolver}
use Rattle.reports.specs.declared.errors.ErrorHeld.{ErrorHeld}
use Rattle.reports.specs.declared.missing.MissingHeld.{MissingHeld}

-- ---- what is asked, and what resolves a hold

-- the SYSMODs that are asked for: its reason, and its resolver if it has one
abbrev pub named_by : By → Hold → List (List ℕ)
named_by Reason hold = hold.key.reason ∷ []
named_by ReasonOrResolver hold = hold.key.reason ∷ cons_option hold.resolver []

-- the candidates for a reason and the SYSMODs for a resolver, unless one of the two is there
abbrev pub both_of : Option (List (List ℕ)) → Option (List (List ℕ)) → Option (List (List ℕ))
both_of None by_resolver = None
both_of (Some by_reason) None = None
both_of (Some by_reason) (Some by_resolver) = Some (in_order (by_reason ++ by_resolver))

abbrev pub unless_resolver_there : Content → List ZoneRow → Option (List ℕ) → Option (List (List ℕ))
unless_resolver_there content rows resolver =
    if is_resolver_there content rows resolver then None else Some (resolvers_by content rows resolver)

-- the SYSMODs that resolve it, unless it is resolved already
abbrev pub resolved_by : By → Content → List ZoneRow → Hold → Option (List (List ℕ))
resolved_by Reason content rows hold = unless_there content rows hold.key.reason
resolved_by ReasonOrResolver content rows hold =
    both_of (unless_there content rows hold.key.reason) (unless_resolver_there content rows hold.resolver)

-- ---- holds with what resolves each

-- A hold with the SYSMODs that resolve it, before their verdicts are known.
pub record FoundLists : Type 0 where
  pub hold : Hold
  pub ids : List (List ℕ)

abbrev pub found_with : Hold → List (List ℕ) → FoundLists
found_with hold ids = record { hold = hold; ids = ids }

-- holds that are lent
abbrev pub lent : List (Bor Hold) → List Hold
lent holds = map (λ hold. hold.now) holds

abbrev pub all_named : By → List (Bor Hold) → List (List ℕ)
all_named by holds = flat_map (λ hold. named_by by hold.now) holds

abbrev pub all_found : (Hold → Option (List (List ℕ))) → List (Bor Hold) → List FoundLists
all_found resolved holds = filter_map (λ hold. option_map (found_with hold.now) (resolved hold.now)) holds

abbrev pub told : (List ℕ → Status) → List (List ℕ) → FoundLists → HoldLists
told status received found = held_by status received found.hold found.ids

-- ---- what the lines are ordered by

abbrev pub error_held : Hold → ErrorHeld
error_held hold = record { fmid = hold.fmid; sysmod = hold.key.sysmod; reason = hold.key.reason; class = hold.class }

abbrev pub error_cmp : ErrorHeld → ErrorHeld → Ordering
error_cmp a b =
    ordering_then (option_cmp id_cmp a.fmid b.fmid)
    (ordering_then (id_cmp a.sysmod b.sysmod) (ordering_then (id_cmp a.reason b.reason) (option_cmp id_cmp a.class b.class)))

-- groups, each under its order
abbrev pub put_errors : List (ErrorHeld × GroupParts) → List GroupParts → List (ErrorHeld × GroupParts)
put_errors entries groups = fold (λ old group. insert_entry error_cmp old (error_held group.hold) group) entries groups

abbrev pub error_entries : List (ErrorHeld × GroupParts) → List HoldLists → List (ErrorHeld × GroupParts)
error_entries entries helds = put_errors entries (map (group_of []) helds)

abbrev pub missing_held : Missing → MissingHeld
missing_held missing = record {
  category = missing.category;
  sysmod = missing.hold.key.sysmod;
  reason = missing.hold.key.reason;
  resolver = missing.hold.resolver;
}

abbrev pub missing_key : GroupParts → MissingHeld
missing_key group = missing_held (record { category = group.category; hold = group.hold })

abbrev pub held_cmp : MissingHeld → MissingHeld → Ordering
held_cmp a b =
    ordering_then (slice_cmp nat_cmp a.category b.category)
    (ordering_then (id_cmp a.sysmod b.sysmod) (ordering_then (id_cmp a.reason b.reason) (option_cmp id_cmp a.resolver b.resolver)))

abbrev pub put_groups : List (MissingHeld × GroupParts) → List GroupParts → List (MissingHeld × GroupParts)
put_groups entries groups = fold (λ old group. insert_entry held_cmp old (missing_key group) group) entries groups

abbrev pub missing_entries : List (List ℕ) → List (MissingHeld × GroupParts) → List HoldLists → List (MissingHeld × GroupParts)
missing_entries patterns entries helds = put_groups entries (flat_map (missing_groups patterns) helds)
