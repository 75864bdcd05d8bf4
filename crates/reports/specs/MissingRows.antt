-- The rows of the missing fix report (IBM z/OS SMP/E Commands, REPORT MISSINGFIX): the fixes of the chosen categories that a
-- zone lacks.
use Rattle.std.specs.Prelude.{◌≡◌, ℕ, ◌||◌, ◌++◌, Bool, false, not, List, [], ◌∷◌, Option, Some, None, filter, map, option_map}
use Rattle.std.specs.BTreeSet.{insert_key}
use Rattle.std.specs.Cmp.Lexicographic.{slice_cmp}
use Rattle.std.specs.List.{flat_map, fold, list_any}
use Rattle.std.specs.Option.{option_cmp}
use Rattle.std.specs.Ordering.{nat_cmp, ordering_then}
use Rattle.std.specs.declared.cmp.Ordering.{Ordering}
use Rattle.std.specs.declared.cmp.Ordering.TheVariants.{Less, Greater}
use Rattle.holddata.specs.declared.hold.Hold.{Hold}
use Rattle.zone_lists.specs.Pattern.{does_match}
use Rattle.zone_lists.specs.declared.zones.ZoneRow.{ZoneRow}
use Rattle.catalogue.specs.Content.{Content}
use Rattle.catalogue.specs.Ids.{id_cmp, in_order}
use Rattle.supersede.specs.Giving.{is_there}
use Rattle.reports.specs.Resolvers.{StandInOrder, candidates_for, each_or_none, is_received, status_in}
use Rattle.reports.specs.declared.rows.MissingRow.{MissingRow}

-- a fix category of a hold
pub record Missing : Type 0 where
  pub category : List ℕ
  pub hold : Hold

-- by category, then held SYSMOD, then reason; no two FIXCAT holds have all of these, so that their resolvers decide
-- nothing
abbrev pub missing_cmp : Missing → Missing → Ordering
missing_cmp a b =
    ordering_then (slice_cmp nat_cmp a.category b.category)
    (ordering_then (id_cmp a.hold.key.sysmod b.hold.key.sysmod)
    (ordering_then (id_cmp a.hold.key.reason b.hold.key.reason) (option_cmp id_cmp a.hold.resolver b.hold.resolver)))

abbrev pub by_category : List Missing → List Missing
by_category missing = fold (insert_key missing_cmp) [] missing

-- whether a resolver is there
abbrev pub is_resolver_there : Content → List ZoneRow → Option (List ℕ) → Bool
is_resolver_there content rows None = false
is_resolver_there content rows (Some resolver) = is_there content rows resolver

-- whether neither the reason nor the resolver of a hold is there
abbrev pub is_missing : Content → List ZoneRow → Hold → Bool
is_missing content rows hold =
    not (is_there content rows hold.key.reason || is_resolver_there content rows hold.resolver)

-- the categories of a hold that a pattern matches
abbrev pub categories_asked : List (List ℕ) → Hold → List Missing
categories_asked patterns hold =
    map (λ category. record { category = category; hold = hold })
    (filter (λ category. list_any (λ pattern. does_match pattern category) patterns) hold.categories)

-- the SYSMODs that resolve a hold: its resolver, and each candidate that gives its reason or its resolver
abbrev pub resolvers_by : Content → List ZoneRow → Option (List ℕ) → List (List ℕ)
resolvers_by content rows None = []
resolvers_by content rows (Some resolver) = candidates_for content rows resolver ++ resolver ∷ []

abbrev pub resolvers_of : Content → List ZoneRow → Hold → List (List ℕ)
resolvers_of content rows hold = in_order (candidates_for content rows hold.key.reason ++ resolvers_by content rows hold.resolver)

-- the row of a category of a hold and a SYSMOD that resolves it, or that says that there is none
abbrev pub missing_row : Content → List ZoneRow → List (List ℕ) → Missing → Option (List ℕ) → MissingRow
missing_row content rows received missing resolver = record {
  category = missing.category;
  sysmod = missing.hold.key.sysmod;
  reason = missing.hold.key.reason;
  resolver = resolver;
  status = option_map (status_in content rows) resolver;
  received = option_map (is_received received) resolver;
}

abbrev pub missing_rows_of_category : Content → List ZoneRow → List (List ℕ) → Missing → List MissingRow
missing_rows_of_category content rows received missing =
    map (missing_row content rows received missing) (each_or_none (resolvers_of content rows missing.hold))

-- the rows of the report, from the FIXCAT holds on installed SYSMODs: for each category that a pattern matches, if neither
-- the reason nor the resolver is there
abbrev pub missing_rows_of : Content → List ZoneRow → List (List ℕ) → List (List ℕ) → List Hold → List MissingRow
missing_rows_of content rows received patterns holds =
    flat_map (missing_rows_of_category content rows received)
    (filter (λ missing. is_missing content rows missing.hold) (by_category (flat_map (categories_asked patterns) holds)))

-- rows by category, then held SYSMOD, then reason
abbrev pub missing_row_cmp : MissingRow → MissingRow → Ordering
missing_row_cmp a b =
    ordering_then (slice_cmp nat_cmp a.category b.category) (ordering_then (id_cmp a.sysmod b.sysmod) (id_cmp a.reason b.reason))

-- no row of the report comes after one that is greater, and the resolvers in the rows of one hold ascend
pub record MissingRowsAscend : Type 0 where
  pub rows : (content : Content) (rows : List ZoneRow) (received patterns : List (List ℕ)) (holds : List Hold)
      → StandInOrder (λ row later. missing_row_cmp row later ≡ Greater → ⊥) (missing_rows_of content rows received patterns holds)
  pub resolvers : (content : Content) (rows : List ZoneRow) (received : List (List ℕ)) (missing : Missing)
      → StandInOrder (λ row later. option_cmp id_cmp row.resolver later.resolver ≡ Less) (missing_rows_of_category content rows received missing)
