-- The lines of the two reports: a hold, and one of the SYSMODs that resolve it, or none. The rows in print and those as JSON are made
-- from these.
use Rattle.std.specs.Prelude.{◌≡◌, ℕ, List, [], Option, filter, map, option_map}
use Rattle.std.specs.BTreeSet.{replace_key}
use Rattle.std.specs.List.{flat_map, fold, list_any}
use Rattle.std.specs.declared.cmp.Ordering.{Ordering}
use Rattle.holddata.specs.declared.hold.Hold.{Hold}
use Rattle.zone_lists.specs.Pattern.{does_match}
use Rattle.zone_lists.specs.declared.zones.ZoneRow.{ZoneRow}
use Rattle.catalogue.specs.Content.{Content}
use Rattle.reports.specs.ErrRows.{err_rows_of, hold_cmp}
use Rattle.reports.specs.Holds.{HoldLists, err_holds_of, missing_holds_of}
use Rattle.reports.specs.MissingRows.{missing_cmp, missing_rows_of}
use Rattle.reports.specs.Resolvers.{each_or_none}
use Rattle.reports.specs.declared.holds.Resolver.{Resolver}
use Rattle.reports.specs.declared.rows.ErrRow.{ErrRow}
use Rattle.reports.specs.declared.rows.MissingRow.{MissingRow}

-- A line of a report as contracts see it: a hold, and one of the SYSMODs that resolve it, or none. In the missing fix report
-- it also has a fix category of the hold.
pub record LineParts : Type 0 where
  pub category : List ℕ
  pub hold : Hold
  pub resolver : Option Resolver

-- A hold as a report has it, in the missing fix report under one of its categories: a line for each resolver, or one that
-- says that there is none.
pub record GroupParts : Type 0 where
  pub category : List ℕ
  pub hold : Hold
  pub resolvers : List Resolver

abbrev pub group_of : List ℕ → HoldLists → GroupParts
group_of category held = record { category = category; hold = held.hold; resolvers = held.resolvers }

abbrev pub line_of : GroupParts → Option Resolver → LineParts
line_of group resolver = record { category = group.category; hold = group.hold; resolver = resolver }

abbrev pub lines_of : GroupParts → List LineParts
lines_of group = map (line_of group) (each_or_none group.resolvers)

-- the lines of groups in their order; of two with the same place in it the later one counts
abbrev pub lines_by : (GroupParts → GroupParts → Ordering) → List GroupParts → List LineParts
lines_by order groups = flat_map lines_of (fold (replace_key order) [] groups)

-- ---- the exception SYSMOD report

abbrev pub err_order : GroupParts → GroupParts → Ordering
err_order a b = hold_cmp a.hold b.hold

abbrev pub err_lines_of : List HoldLists → List LineParts
err_lines_of helds = lines_by err_order (map (group_of []) helds)

-- the row of a line
abbrev pub err_row_of : LineParts → ErrRow
err_row_of line = record {
  fmid = line.hold.fmid;
  sysmod = line.hold.key.sysmod;
  reason = line.hold.key.reason;
  resolver = option_map (λ one. one.id) line.resolver;
  status = option_map (λ one. one.status) line.resolver;
  received = option_map (λ one. one.received) line.resolver;
  class = line.hold.class;
}

-- the rows of the report are its lines
abbrev pub ErrRowsAreLines : Type 0
ErrRowsAreLines = (content : Content) (rows : List ZoneRow) (received : List (List ℕ)) (holds : List Hold)
    → err_rows_of content rows received holds ≡ map err_row_of (err_lines_of (err_holds_of content rows received holds))

-- ---- the missing fix report

abbrev pub missing_order : GroupParts → GroupParts → Ordering
missing_order a b = missing_cmp (record { category = a.category; hold = a.hold }) (record { category = b.category; hold = b.hold })

-- each category of a hold that a pattern matches
abbrev pub missing_groups : List (List ℕ) → HoldLists → List GroupParts
missing_groups patterns held =
    map (λ category. group_of category held) (filter (λ category. list_any (λ pattern. does_match pattern category) patterns) held.hold.categories)

abbrev pub missing_lines_of : List (List ℕ) → List HoldLists → List LineParts
missing_lines_of patterns helds = lines_by missing_order (flat_map (missing_groups patterns) helds)

abbrev pub missing_row_of : LineParts → MissingRow
missing_row_of line = record {
  category = line.category;
  sysmod = line.hold.key.sysmod;
  reason = line.hold.key.reason;
  resolver = option_map (λ one. one.id) line.resolver;
  status = option_map (λ one. one.status) line.resolver;
  received = option_map (λ one. one.received) line.resolver;
}

abbrev pub MissingRowsAreLines : Type 0
MissingRowsAreLines = (content : Content) (rows : List ZoneRow) (received patterns : List (List ℕ)) (holds : List Hold)
    → missing_rows_of content rows received patterns holds
    ≡ map missing_row_of (missing_lines_of patterns (missing_holds_of content rows received patterns holds))
