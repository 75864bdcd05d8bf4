-- The rows of the exception SYSMOD report (IBM z/OS SMP/E Commands, REPORT ERRSYSMODS): the installed SYSMODs that have
-- since been held in error, and the SYSMODs that resolve that.
use Rattle.std.specs.Prelude.{◌≡◌, ℕ, not, List, [], Option, filter, map, option_map}
use Rattle.std.specs.BTreeSet.{insert_key}
use Rattle.std.specs.List.{flat_map, fold}
use Rattle.std.specs.Option.{option_cmp}
use Rattle.std.specs.Ordering.{ordering_then}
use Rattle.std.specs.declared.cmp.Ordering.{Ordering}
use Rattle.std.specs.declared.cmp.Ordering.TheVariants.{Less}
use Rattle.holddata.specs.declared.hold.Hold.{Hold}
use Rattle.zone_lists.specs.declared.zones.ZoneRow.{ZoneRow}
use Rattle.catalogue.specs.Content.{Content, IsInOrder}
use Rattle.catalogue.specs.Ids.{id_cmp}
use Rattle.supersede.specs.Giving.{is_there}
use Rattle.reports.specs.Resolvers.{StandInOrder, candidates_for, each_or_none, is_received, status_in}
use Rattle.reports.specs.declared.rows.ErrRow.{ErrRow}

-- holds by FMID, an absent one first, then SYSMOD, then reason; no two ERROR holds have all of these, so that their
-- classes decide nothing
abbrev pub hold_cmp : Hold → Hold → Ordering
hold_cmp a b =
    ordering_then (option_cmp id_cmp a.fmid b.fmid)
    (ordering_then (id_cmp a.key.sysmod b.key.sysmod) (ordering_then (id_cmp a.key.reason b.key.reason) (option_cmp id_cmp a.class b.class)))

-- holds in the order of the report
abbrev pub by_fmid : List Hold → List Hold
by_fmid holds = fold (insert_key hold_cmp) [] holds

-- the row of a hold and a SYSMOD that resolves it, or that says that there is none
abbrev pub err_row : Content → List ZoneRow → List (List ℕ) → Hold → Option (List ℕ) → ErrRow
err_row content rows received hold resolver = record {
  fmid = hold.fmid;
  sysmod = hold.key.sysmod;
  reason = hold.key.reason;
  resolver = resolver;
  status = option_map (status_in content rows) resolver;
  received = option_map (is_received received) resolver;
  class = hold.class;
}

-- a hold has a row for each of its resolvers, or one that says that there is none
abbrev pub err_rows_of_hold : Content → List ZoneRow → List (List ℕ) → Hold → List ErrRow
err_rows_of_hold content rows received hold =
    map (err_row content rows received hold) (each_or_none (candidates_for content rows hold.key.reason))

-- the rows of the report, of the ERROR holds on SYSMODs that are installed: those whose reason isn't there
abbrev pub err_rows_of : Content → List ZoneRow → List (List ℕ) → List Hold → List ErrRow
err_rows_of content rows received holds =
    flat_map (err_rows_of_hold content rows received)
    (filter (λ hold. not (is_there content rows hold.key.reason)) (by_fmid holds))

-- rows by the FMID of the hold, an absent one first, then by SYSMOD, reason and resolver; the class comes before the
-- resolver, and decides only if two holds have the first three, which no two ERROR holds in force do
abbrev pub err_row_cmp : ErrRow → ErrRow → Ordering
err_row_cmp a b =
    ordering_then (option_cmp id_cmp a.fmid b.fmid)
    (ordering_then (id_cmp a.sysmod b.sysmod)
    (ordering_then (id_cmp a.reason b.reason) (ordering_then (option_cmp id_cmp a.class b.class) (option_cmp id_cmp a.resolver b.resolver))))

-- the rows of the report ascend, each once
abbrev pub ErrRowsAscend : Type 0
ErrRowsAscend = (content : Content) (rows : List ZoneRow) (received : List (List ℕ)) (holds : List Hold) → IsInOrder content
    → StandInOrder (λ row later. err_row_cmp row later ≡ Less) (err_rows_of content rows received holds)
