-- The texts of answers.
use Rattle.std.specs.Prelude.{ℕ, ◌++◌, Bool, true, false, List, [], ◌∷◌, codes, count_by, decimal, length, map, Option, Some, None}
use Rattle.columns.specs.Columns.{text_of as text_in}
use Rattle.mcs_reader.specs.Id.{text_of}
use Rattle.holddata.specs.declared.hold.Hold.{Hold}
use Rattle.holddata.specs.declared.hold.HoldChange.TheVariants.{Put, Release}
use Rattle.holddata.specs.declared.key.Kind.{Kind}
use Rattle.holddata.specs.declared.key.Kind.TheVariants.{ErrorHold, FixcatHold}
use Rattle.zone_lists.specs.declared.zones.ZoneRow.{ZoneRow}
use Rattle.catalogue.specs.Content.{Content}
use Rattle.catalogue.specs.declared.change.Change.{Change}
use Rattle.catalogue.specs.declared.change.Change.TheVariants.{Whole, OfHold}
use Rattle.verdicts.specs.Verdicts.{verdict_of}
use Rattle.reports.specs.ChainText.{chain_text_of}
use Rattle.reports.specs.ErrRows.{err_rows_of}
use Rattle.reports.specs.Holds.{err_holds_of, missing_holds_of}
use Rattle.reports.specs.MissingRows.{missing_rows_of}
use Rattle.reports.specs.ReportText.{err_text_of, missing_text_of}
use Rattle.report_json.specs.Counts.{zone_counts_json_of}
use Rattle.report_json.specs.Json.{err_json_of, missing_json_of, published_json_of, zones_json_of}
use Rattle.plan_reports.specs.Replies.{plan_answer_of}
use Rattle.questions.specs.declared.report.Report.{Report}
use Rattle.questions.specs.declared.report.Report.TheVariants.{ErrSysmods, MissingFix}
use Rattle.questions.specs.declared.wanted.Form.{Form}
use Rattle.questions.specs.declared.wanted.Form.TheVariants.{Text, Json}
use Rattle.questions.specs.declared.wanted.Wanted.{Wanted}
use Rattle.questions.specs.declared.wanted.Wanted.TheVariants.{Rows, Plan}
use Rattle.bureau_store.specs.Held.{held_in}
use Rattle.bureau_store.specs.Tables.{ZoneTable, Zones, patterns_of}

-- whether a change publishes a SYSMOD's record, puts a hold, or releases one
abbrev pub is_record : Change → Bool
is_record (Whole sysmod) = true
is_record (OfHold change) = false

abbrev pub is_put : Change → Bool
is_put (Whole sysmod) = false
is_put (OfHold (Put hold)) = true
is_put (OfHold (Release key)) = false

abbrev pub is_release : Change → Bool
is_release (Whole sysmod) = false
is_release (OfHold (Put hold)) = false
is_release (OfHold (Release key)) = true

-- the line for a publication: the number of changes of each sort that its statements made
abbrev pub publication_text : List Change → List ℕ
publication_text changes =
    codes "ACCEPTED SYSMODS " ++ decimal (count_by is_record changes)
    ++ codes " HOLDS " ++ decimal (count_by is_put changes)
    ++ codes " RELEASES " ++ decimal (count_by is_release changes) ++ codes "\n"

-- the counts of what is published, in a form
abbrev pub counts_told : Form → ℕ → ℕ → List ℕ
counts_told Text sysmods holds = codes "PUBLISHED SYSMODS " ++ decimal sysmods ++ codes " HOLDS " ++ decimal holds ++ codes "\n"
counts_told Json sysmods holds = published_json_of sysmods holds

abbrev pub counts_text : Form → Content → List ℕ
counts_text form content = counts_told form (length content.sysmods) (length content.holds)

abbrev pub zone_put_text : List ℕ → List ZoneRow → List ℕ
zone_put_text zone rows = codes "ZONE " ++ text_of zone ++ codes " ROWS " ++ decimal (length rows) ++ codes "\n"

abbrev pub zone_dropped_text : List ℕ → List ℕ
zone_dropped_text zone = codes "ZONE " ++ text_of zone ++ codes " DROPPED\n"

abbrev pub patterns_text : List ℕ → List (List ℕ) → List ℕ
patterns_text zone patterns = codes "ZONE " ++ text_of zone ++ codes " PATTERNS " ++ decimal (length patterns) ++ codes "\n"

abbrev pub received_text : List (List ℕ) → List ℕ
received_text ids = codes "RECEIVED ROWS " ++ decimal (length ids) ++ codes "\n"

-- a client's zones, each with the number of its rows
abbrev pub zone_columns : List (ℕ × List ℕ)
zone_columns = (1, codes "ZONE") ∷ (10, codes "SYSMODS") ∷ []

-- the fields of a zone and the number of its rows
abbrev pub zone_fields : List ℕ × ℕ → List (List ℕ)
zone_fields zone = text_of zone.0 ∷ decimal zone.1 ∷ []

abbrev pub zones_told : Form → List (List ℕ × ℕ) → List ℕ
zones_told Text zones = text_in zone_columns None (map zone_fields zones)
zones_told Json zones = zones_json_of zones

abbrev pub zones_text : Form → Zones → List ℕ
zones_text form zones = zones_told form (map (λ zone. (zone.0, length zone.1.rows)) zones)

-- ---- reports, from the rows of a zone, the received list, the patterns and the holds that are read for the report

-- the exception SYSMOD report in print, and as JSON
abbrev pub err_report_from : Content → List ℕ → List ZoneRow → List (List ℕ) → List Hold → List ℕ
err_report_from content zone rows received holds = err_text_of zone (err_rows_of content rows received holds)

abbrev pub err_json_from : Content → List ℕ → List ZoneRow → List (List ℕ) → List Hold → List ℕ
err_json_from content zone rows received holds = err_json_of content zone (err_holds_of content rows received holds)

-- the missing fix report in print, and as JSON
abbrev pub missing_report_from : Content → List ℕ → List ZoneRow → List (List ℕ) → List (List ℕ) → List Hold → List ℕ
missing_report_from content zone rows received patterns holds =
    missing_text_of zone (missing_rows_of content rows received patterns holds)

abbrev pub missing_json_from : Content → List ℕ → List ZoneRow → List (List ℕ) → List (List ℕ) → List Hold → List ℕ
missing_json_from content zone rows received patterns holds =
    missing_json_of content zone patterns (missing_holds_of content rows received patterns holds)

-- the text of a report, or of the plan for it
abbrev pub text_from : Report → Wanted → Content → List ℕ → List ZoneRow → List (List ℕ) → List (List ℕ) → List Hold → List ℕ
text_from ErrSysmods (Rows Text) content zone rows received patterns holds = err_report_from content zone rows received holds
text_from ErrSysmods (Rows Json) content zone rows received patterns holds = err_json_from content zone rows received holds
text_from MissingFix (Rows Text) content zone rows received patterns holds = missing_report_from content zone rows received patterns holds
text_from MissingFix (Rows Json) content zone rows received patterns holds = missing_json_from content zone rows received patterns holds
text_from report (Plan form) content zone rows received patterns holds = plan_answer_of report form content rows received patterns holds zone

-- the kind of the holds from which a report is made
abbrev pub kind_of : Report → Kind
kind_of ErrSysmods = ErrorHold
kind_of MissingFix = FixcatHold

-- the patterns of a zone, if the report has some
abbrev pub patterns_for : Report → Option ZoneTable → List (List ℕ)
patterns_for ErrSysmods found = []
patterns_for MissingFix found = patterns_of found

-- the text of a report on a zone, or of the plan for it
abbrev pub report_text : Report → Wanted → Content → List ℕ → ZoneTable → List (List ℕ) → List ℕ
report_text report wanted content zone table received =
    text_from report wanted content zone table.rows received (patterns_for report (Some table)) (held_in content table.rows (kind_of report))

-- ---- counts

-- the counts of both reports, from the rows and the patterns of a zone and the holds that are read for each; what was received
-- counts for nothing
abbrev pub zone_counts_from : Content → List ℕ → List ZoneRow → List (List ℕ) → List Hold → List Hold → List ℕ
zone_counts_from content zone rows patterns errors fixes =
    zone_counts_json_of zone patterns (err_holds_of content rows [] errors) (missing_holds_of content rows [] patterns fixes)

-- the counts of both reports on a zone
abbrev pub zone_counts_text : Content → List ℕ → ZoneTable → List ℕ
zone_counts_text content zone table =
    zone_counts_from content zone table.rows table.patterns (held_in content table.rows ErrorHold) (held_in content table.rows FixcatHold)

-- ---- verdicts

-- the verdict on a SYSMOD in a zone, from its rows
abbrev pub chain_text_from : Content → List ℕ → List ZoneRow → List ℕ → List ℕ
chain_text_from content zone rows sysmod = chain_text_of content zone sysmod (verdict_of content rows sysmod)

-- the verdict on a SYSMOD in a zone
abbrev pub chain_text : Content → List ℕ → ZoneTable → List ℕ → List ℕ
chain_text content zone table sysmod = chain_text_from content zone table.rows sysmod
