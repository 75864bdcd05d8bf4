-- The counts of the reports on a zone as JSON: over the holds of each report, with the SYSMODs that resolve each.
use Rattle.std.specs.Prelude.{ℕ, ◌&&◌, ◌||◌, Bool, true, false, not, List, Option, Some, None, codes, count_by, length}
use Rattle.std.specs.List.{list_any}
use Rattle.std.specs.Str.{bytes_eq}
use Rattle.serde_json.specs.Data.{Data, member, no_members, number, object, string, unsigned}
use Rattle.serde_json.specs.Written.{compact_text}
use Rattle.mcs_reader.specs.Id.{text_of}
use Rattle.verdicts.specs.declared.verdict.Status.{Status}
use Rattle.verdicts.specs.declared.verdict.Status.TheVariants.{Good, Held, Lack}
use Rattle.reports.specs.Holds.{HoldLists}
use Rattle.reports.specs.Lines.{err_lines_of, missing_lines_of}
use Rattle.report_json.specs.Json.{sysmods_in}

-- ---- holds by class (IBM z/OS SMP/E Reference, ++HOLD, operand CLASS)

abbrev pub is_class : List ℕ → Option (List ℕ) → Bool
is_class name None = false
is_class name (Some class) = bytes_eq (text_of class) name

-- the holds of HIPER and PE, which tell most, and all others
abbrev pub is_hiper : HoldLists → Bool
is_hiper held = is_class (codes "HIPER") held.hold.class

abbrev pub is_pe : HoldLists → Bool
is_pe held = is_class (codes "PE") held.hold.class

abbrev pub is_other : HoldLists → Bool
is_other held = not (is_hiper held || is_pe held)

-- ---- holds by the statuses of the SYSMODs that resolve them

abbrev pub is_good : Status → Bool
is_good Good = true
is_good Held = false
is_good Lack = false

abbrev pub is_status_held : Status → Bool
is_status_held Good = false
is_status_held Held = true
is_status_held Lack = false

-- a SYSMOD that resolves it is GOOD
abbrev pub is_resolved : HoldLists → Bool
is_resolved held = list_any (λ resolver. is_good resolver.status) held.resolvers

abbrev pub has_held : HoldLists → Bool
has_held held = list_any (λ resolver. is_status_held resolver.status) held.resolvers

-- none is GOOD, and one is HELD
abbrev pub is_held : HoldLists → Bool
is_held held = not (is_resolved held) && has_held held

-- none is GOOD or HELD
abbrev pub is_unresolved : HoldLists → Bool
is_unresolved held = not (is_resolved held || has_held held)

-- ---- the counts

-- the exception SYSMOD report: its holds, by class and by status, its rows, and the SYSMODs that are held
abbrev pub err_counts_with : ℕ → ℕ → List HoldLists → Data
err_counts_with rows sysmods helds =
    object (member (codes "held") (number (unsigned (count_by is_held helds)))
    (member (codes "hiper") (number (unsigned (count_by is_hiper helds)))
    (member (codes "holds") (number (unsigned (length helds)))
    (member (codes "other") (number (unsigned (count_by is_other helds)))
    (member (codes "pe") (number (unsigned (count_by is_pe helds)))
    (member (codes "resolved") (number (unsigned (count_by is_resolved helds)))
    (member (codes "rows") (number (unsigned rows))
    (member (codes "sysmods") (number (unsigned sysmods))
    (member (codes "unresolved") (number (unsigned (count_by is_unresolved helds))) no_members)))))))))

abbrev pub err_counts_data : List HoldLists → Data
err_counts_data helds = err_counts_with (length (err_lines_of helds)) (length (sysmods_in helds)) helds

-- the missing fix report: its holds, each of which is a fix that is missing, and its rows
abbrev pub missing_counts_data : List (List ℕ) → List HoldLists → Data
missing_counts_data patterns helds =
    object (member (codes "holds") (number (unsigned (length helds)))
    (member (codes "rows") (number (unsigned (length (missing_lines_of patterns helds)))) no_members))

-- both reports on a zone
abbrev pub zone_counts_data : List ℕ → Data → Data → Data
zone_counts_data zone errors fixes =
    object (member (codes "errsysmods") errors (member (codes "missingfix") fixes (member (codes "zone") (string (text_of zone)) no_members)))

-- by the patterns of the zone and the holds of the two reports
abbrev pub zone_counts_json_of : List ℕ → List (List ℕ) → List HoldLists → List HoldLists → List ℕ
zone_counts_json_of zone patterns errors fixes =
    compact_text (zone_counts_data zone (err_counts_data errors) (missing_counts_data patterns fixes))
