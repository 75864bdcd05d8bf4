-- Values and the data that they stand for.
use Rattle.std.proofs.Common.{◌≡◌, ℕ, Bool, List, false, Option, Some, None, map, option_map, refl}
use Rattle.serde_json.specs.View.{items_of}
use Rattle.serde_json.specs.Written.{has_float, items_have_float}
use Rattle.catalogue.specs.Content.{Content, record_of}
use Rattle.catalogue.specs.declared.sysmod.Sysmod.{Sysmod}
use Rattle.verdicts.specs.declared.verdict.Status.{Status}
use Rattle.reports.specs.Holds.{HoldLists}
use Rattle.reports.specs.Lines.{LineParts, err_lines_of, missing_lines_of}
use Rattle.reports.proofs.ChainFacts.{items_plain, texts_plain}
pub use Rattle.reports.proofs.ChainFacts.{value_more}
use Rattle.report_json.specs.Dates.{date_data, day_data}
use Rattle.report_json.specs.Json.{category_data, err_data, err_report_data, fmids_data, hold_data, id_data, missing_data, missing_report_data, received_data, status_data, sysmod_data, sysmod_data_with, sysmods_in, zone_data, zones_data}

-- ---- no number is a float

id_plain : (id : Option (List ℕ)) → has_float (id_data id) ≡ false
id_plain None = refl
id_plain (Some id) = refl

status_plain : (status : Option Status) → has_float (status_data status) ≡ false
status_plain None = refl
status_plain (Some status) = refl

received_plain : (received : Option Bool) → has_float (received_data received) ≡ false
received_plain None = refl
received_plain (Some received) = refl

day_plain : (year : ℕ) (day : Option (ℕ × ℕ)) → has_float (day_data year day) ≡ false
day_plain year None = refl
day_plain year (Some day) = refl

date_plain : (date : Option ℕ) → has_float (date_data date) ≡ false
date_plain None = refl
date_plain (Some date) = day_plain _ _

category_plain : (category : List ℕ) → has_float (category_data category) ≡ false
category_plain category = refl

fmids_plain : (sysmod : Option Sysmod) → has_float (fmids_data sysmod) ≡ false
fmids_plain None = refl
fmids_plain (Some sysmod) = texts_plain sysmod.fmids

err_plain : (line : LineParts) → has_float (err_data line) ≡ false
err_plain line =
    rw (
      id_plain line.hold.class,
      date_plain line.hold.dated,
      id_plain line.hold.fmid,
      received_plain (option_map (λ one. one.received) line.resolver),
      id_plain (option_map (λ one. one.id) line.resolver),
      status_plain (option_map (λ one. one.status) line.resolver),
    ) refl

missing_plain : (line : LineParts) → has_float (missing_data line) ≡ false
missing_plain line =
    rw (
      id_plain line.hold.class,
      date_plain line.hold.dated,
      received_plain (option_map (λ one. one.received) line.resolver),
      id_plain (option_map (λ one. one.id) line.resolver),
      status_plain (option_map (λ one. one.status) line.resolver),
    ) refl

hold_plain : (held : HoldLists) → has_float (hold_data held.hold) ≡ false
hold_plain held = rw (items_plain category_data category_plain held.hold.categories, id_plain held.hold.fmid) refl

sysmod_plain : (id : List ℕ) (sysmod : Option Sysmod) → has_float (sysmod_data_with id sysmod) ≡ false
sysmod_plain id sysmod = rw (fmids_plain sysmod) refl

sysmods_plain : (content : Content) (ids : List (List ℕ)) → items_have_float (items_of (map (sysmod_data content) ids)) ≡ false
sysmods_plain content ids = items_plain (sysmod_data content) (λ id. sysmod_plain id (record_of content id)) ids

pub err_report_plain : (zone : List ℕ) (content : Content) (helds : List HoldLists)
    → has_float (err_report_data zone (map err_data (err_lines_of helds)) (map (sysmod_data content) (sysmods_in helds))) ≡ false
err_report_plain zone content helds = rw (items_plain err_data err_plain (err_lines_of helds), sysmods_plain content (sysmods_in helds)) refl

pub missing_report_plain : (zone : List ℕ) (content : Content) (patterns : List (List ℕ)) (helds : List HoldLists)
    → has_float (missing_report_data zone (map (λ held. hold_data held.hold) helds) (map missing_data (missing_lines_of patterns helds)) (map (sysmod_data content) (sysmods_in helds))) ≡ false
missing_report_plain zone content patterns helds =
    rw (
      items_plain (λ (held : HoldLists). hold_data held.hold) hold_plain helds,
      items_plain missing_data missing_plain (missing_lines_of patterns helds),
      sysmods_plain content (sysmods_in helds),
    ) refl

zone_plain : (zone : List ℕ × ℕ) → has_float (zone_data zone) ≡ false
zone_plain zone = refl

pub zones_plain : (zones : List (List ℕ × ℕ)) → has_float (zones_data zones) ≡ false
zones_plain zones = rw (items_plain zone_data zone_plain zones) refl
