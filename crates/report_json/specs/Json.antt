-- Reports, the list of zones and the counts of what is published as JSON: the compact text of objects whose keys ascend.
use Rattle.std.specs.Prelude.{ℕ, Bool, List, Option, Some, None, codes, map, option_map}
use Rattle.std.specs.Str.Lossy.{utf8_lossy}
use Rattle.serde_json.specs.Data.{Data, array, boolean, member, no_members, null, number, object, string, unsigned}
use Rattle.serde_json.specs.View.{items_of}
use Rattle.serde_json.specs.Written.{compact_text}
use Rattle.mcs_reader.specs.Id.{text_of}
use Rattle.holddata.specs.declared.hold.Hold.{Hold}
use Rattle.catalogue.specs.Content.{Content, record_of}
use Rattle.catalogue.specs.Ids.{in_order}
use Rattle.catalogue.specs.declared.sysmod.Sysmod.{Sysmod}
use Rattle.verdicts.specs.declared.verdict.Status.{Status}
use Rattle.reports.specs.ChainText.{texts}
use Rattle.reports.specs.Holds.{HoldLists}
use Rattle.reports.specs.Lines.{LineParts, err_lines_of, missing_lines_of}
use Rattle.reports.specs.ReportText.{status_field}
use Rattle.report_json.specs.Dates.{date_data}

-- ---- fields

-- an id, or null if there is none
abbrev pub id_data : Option (List ℕ) → Data
id_data None = null
id_data (Some id) = string (text_of id)

-- the status of a resolver as the text has it, or null if there is no resolver
abbrev pub status_data : Option Status → Data
status_data None = null
status_data (Some status) = string (status_field (Some status))

-- whether the resolver was received, or null if there is none
abbrev pub received_data : Option Bool → Data
received_data None = null
received_data (Some received) = boolean received

-- a category; those of the bureau have only ASCII, and are written as they are
abbrev pub category_data : List ℕ → Data
category_data category = string (utf8_lossy category)

-- the functions of a SYSMOD by its record, whether they are installed or not, or null if it has no record
abbrev pub fmids_data : Option Sysmod → Data
fmids_data None = null
fmids_data (Some sysmod) = array (texts sysmod.fmids)

-- ---- the exception SYSMOD report

-- a row, by its hold and the status of its resolver: the columns of the text, and the date of the hold
abbrev pub err_data_with : Hold → Option (List ℕ) → Option Status → Option Bool → Data
err_data_with hold resolver status received =
    object (member (codes "class") (id_data hold.class)
    (member (codes "date") (date_data hold.dated)
    (member (codes "fmid") (id_data hold.fmid)
    (member (codes "reason") (string (text_of hold.key.reason))
    (member (codes "received") (received_data received)
    (member (codes "resolver") (id_data resolver)
    (member (codes "status") (status_data status)
    (member (codes "sysmod") (string (text_of hold.key.sysmod)) no_members))))))))

abbrev pub err_data : LineParts → Data
err_data line =
    err_data_with line.hold (option_map (λ one. one.id) line.resolver) (option_map (λ one. one.status) line.resolver)
    (option_map (λ one. one.received) line.resolver)

-- ---- the missing fix report

-- a row, by its category, its hold and the status of its resolver: the columns of the text, and the class and the date of
-- the hold
abbrev pub missing_data_with : List ℕ → Hold → Option (List ℕ) → Option Status → Option Bool → Data
missing_data_with category hold resolver status received =
    object (member (codes "category") (category_data category)
    (member (codes "class") (id_data hold.class)
    (member (codes "date") (date_data hold.dated)
    (member (codes "reason") (string (text_of hold.key.reason))
    (member (codes "received") (received_data received)
    (member (codes "resolver") (id_data resolver)
    (member (codes "status") (status_data status)
    (member (codes "sysmod") (string (text_of hold.key.sysmod)) no_members))))))))

abbrev pub missing_data : LineParts → Data
missing_data line =
    missing_data_with line.category line.hold (option_map (λ one. one.id) line.resolver) (option_map (λ one. one.status) line.resolver)
    (option_map (λ one. one.received) line.resolver)

-- a hold: all its categories, whether a pattern matches them or not, and its operand FMID
abbrev pub hold_data : Hold → Data
hold_data hold =
    object (member (codes "categories") (array (items_of (map category_data hold.categories)))
    (member (codes "fmid") (id_data hold.fmid)
    (member (codes "reason") (string (text_of hold.key.reason))
    (member (codes "sysmod") (string (text_of hold.key.sysmod)) no_members))))

-- ---- the held SYSMODs

-- a held SYSMOD with its functions
abbrev pub sysmod_data_with : List ℕ → Option Sysmod → Data
sysmod_data_with id sysmod = object (member (codes "fmids") (fmids_data sysmod) (member (codes "sysmod") (string (text_of id)) no_members))

abbrev pub sysmod_data : Content → List ℕ → Data
sysmod_data content id = sysmod_data_with id (record_of content id)

-- the SYSMODs of holds, each once, in ascending order
abbrev pub sysmods_in : List HoldLists → List (List ℕ)
sysmods_in helds = in_order (map (λ held. held.hold.key.sysmod) helds)

-- ---- whole texts

-- the exception SYSMOD report on a zone: its rows, and the held SYSMODs
abbrev pub err_report_data : List ℕ → List Data → List Data → Data
err_report_data zone rows sysmods =
    object (member (codes "report") (string (codes "errsysmods"))
    (member (codes "rows") (array (items_of rows))
    (member (codes "sysmods") (array (items_of sysmods))
    (member (codes "zone") (string (text_of zone)) no_members))))

-- by its holds
abbrev pub err_json_of : Content → List ℕ → List HoldLists → List ℕ
err_json_of content zone helds =
    compact_text (err_report_data zone (map err_data (err_lines_of helds)) (map (sysmod_data content) (sysmods_in helds)))

-- the missing fix report on a zone: its rows, its holds in their order, and the held SYSMODs, each once
abbrev pub missing_report_data : List ℕ → List Data → List Data → List Data → Data
missing_report_data zone holds rows sysmods =
    object (member (codes "holds") (array (items_of holds))
    (member (codes "report") (string (codes "missingfix"))
    (member (codes "rows") (array (items_of rows))
    (member (codes "sysmods") (array (items_of sysmods))
    (member (codes "zone") (string (text_of zone)) no_members)))))

abbrev pub missing_json_of : Content → List ℕ → List (List ℕ) → List HoldLists → List ℕ
missing_json_of content zone patterns helds =
    compact_text (missing_report_data zone
    (map (λ held. hold_data held.hold) helds)
    (map missing_data (missing_lines_of patterns helds))
    (map (sysmod_data content) (sysmods_in helds)))

-- a zone, and the number of its rows
abbrev pub zone_data : List ℕ × ℕ → Data
zone_data zone = object (member (codes "sysmods") (number (unsigned zone.1)) (member (codes "zone") (string (text_of zone.0)) no_members))

-- a client's zones
abbrev pub zones_data : List (List ℕ × ℕ) → Data
zones_data zones = object (member (codes "zones") (array (items_of (map zone_data zones))) no_members)

abbrev pub zones_json_of : List (List ℕ × ℕ) → List ℕ
zones_json_of zones = compact_text (zones_data zones)

-- the numbers of SYSMODs and of holds that are published
abbrev pub published_data : ℕ → ℕ → Data
published_data sysmods holds = object (member (codes "holds") (number (unsigned holds)) (member (codes "sysmods") (number (unsigned sysmods)) no_members))

abbrev pub published_json_of : ℕ → ℕ → List ℕ
published_json_of sysmods holds = compact_text (published_data sysmods holds)
