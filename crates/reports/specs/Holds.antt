-- The holds of the two reports: those that nothing resolves yet, each with the SYSMODs that resolve it (IBM z/OS SMP/E Commands,
-- REPORT ERRSYSMODS and REPORT MISSINGFIX).
use Rattle.std.specs.Prelude.{ℕ, Bool, not, List, filter, map}
use Rattle.std.specs.List.{list_any}
use Rattle.holddata.specs.declared.hold.Hold.{Hold}
use Rattle.zone_lists.specs.Pattern.{does_match}
use Rattle.zone_lists.specs.declared.zones.ZoneRow.{ZoneRow}
use Rattle.catalogue.specs.Content.{Content}
use Rattle.supersede.specs.Giving.{is_there}
use Rattle.verdicts.specs.declared.verdict.Status.{Status}
use Rattle.reports.specs.MissingRows.{is_missing, resolvers_of}
use Rattle.reports.specs.Resolvers.{candidates_for, is_received, status_in}
use Rattle.reports.specs.declared.holds.Resolver.{Resolver}

-- A hold of a report as contracts see it, and its resolvers.
pub record HoldLists : Type 0 where
  pub hold : Hold
  pub resolvers : List Resolver

-- a SYSMOD that resolves a hold, with its status
abbrev pub resolver_by : (List ℕ → Status) → List (List ℕ) → List ℕ → Resolver
resolver_by status received id = record { id = id; status = status id; received = is_received received id }

-- a hold with the SYSMODs that resolve it
abbrev pub held_by : (List ℕ → Status) → List (List ℕ) → Hold → List (List ℕ) → HoldLists
held_by status received hold ids = record { hold = hold; resolvers = map (resolver_by status received) ids }

-- the holds of the exception SYSMOD report, in their order: those whose reason isn't there, with the candidates that give it
abbrev pub err_holds_of : Content → List ZoneRow → List (List ℕ) → List Hold → List HoldLists
err_holds_of content rows received holds =
    map (λ hold. held_by (status_in content rows) received hold (candidates_for content rows hold.key.reason))
    (filter (λ hold. not (is_there content rows hold.key.reason)) holds)

-- whether a pattern matches a category of a hold
abbrev pub is_asked : List (List ℕ) → Hold → Bool
is_asked patterns hold = list_any (λ category. list_any (λ pattern. does_match pattern category) patterns) hold.categories

-- the holds of the missing fix report, in their order: those with a category that a pattern matches, if neither the reason
-- nor the resolver is there
abbrev pub missing_holds_of : Content → List ZoneRow → List (List ℕ) → List (List ℕ) → List Hold → List HoldLists
missing_holds_of content rows received patterns holds =
    map (λ hold. held_by (status_in content rows) received hold (resolvers_of content rows hold))
    (filter (λ hold. is_missing content rows hold) (filter (is_asked patterns) holds))
