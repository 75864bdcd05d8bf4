-- The two reports in print.
use Rattle.std.specs.Prelude.{ℕ, ◌++◌, Bool, List, [], ◌∷◌, Option, Some, None, codes, map, if◌then◌else◌}
use Rattle.columns.specs.Columns.{text_of as text_in}
use Rattle.mcs_reader.specs.Id.{text_of}
use Rattle.holddata.specs.BookText.{id_field}
use Rattle.reports.specs.declared.rows.ErrRow.{ErrRow}
use Rattle.reports.specs.declared.rows.MissingRow.{MissingRow}
use Rattle.verdicts.specs.declared.verdict.Status.{Status}
use Rattle.verdicts.specs.declared.verdict.Status.TheVariants.{Good, Held, Lack}

-- the field of a resolver: its id, or that there is none
abbrev pub resolver_field : Option (List ℕ) → List ℕ
resolver_field None = codes "- NONE -"
resolver_field (Some id) = text_of id

abbrev pub status_field : Option Status → List ℕ
status_field None = codes "-"
status_field (Some Good) = codes "GOOD"
status_field (Some Held) = codes "HELD"
status_field (Some Lack) = codes "LACK"

abbrev pub received_field : Option Bool → List ℕ
received_field None = codes "-"
received_field (Some received) = if received then codes "YES" else codes "NO"

abbrev pub err_columns : List (ℕ × List ℕ)
err_columns =
    (1, codes "FMID") ∷ (10, codes "SYSMOD") ∷ (19, codes "REASON") ∷ (28, codes "RESOLVER") ∷ (37, codes "STATUS")
    ∷ (44, codes "RECEIVED") ∷ (53, codes "CLASS") ∷ []

abbrev pub err_fields : ErrRow → List (List ℕ)
err_fields row =
    id_field row.fmid ∷ text_of row.sysmod ∷ text_of row.reason ∷ resolver_field row.resolver ∷ status_field row.status
    ∷ received_field row.received ∷ id_field row.class ∷ []

-- the exception SYSMOD report on a zone
abbrev pub err_text_of : List ℕ → List ErrRow → List ℕ
err_text_of zone rows = text_in err_columns (Some (codes "EXCEPTION SYSMOD REPORT FOR ZONE " ++ text_of zone)) (map err_fields rows)

abbrev pub missing_columns : List (ℕ × List ℕ)
missing_columns =
    (1, codes "CATEGORY") ∷ (67, codes "FMID") ∷ (76, codes "REASON") ∷ (85, codes "RESOLVER") ∷ (94, codes "STATUS")
    ∷ (101, codes "RECEIVED") ∷ []

-- the held SYSMOD is in the column FMID
abbrev pub missing_fields : MissingRow → List (List ℕ)
missing_fields row =
    row.category ∷ text_of row.sysmod ∷ text_of row.reason ∷ resolver_field row.resolver ∷ status_field row.status
    ∷ received_field row.received ∷ []

-- the missing fix report on a zone
abbrev pub missing_text_of : List ℕ → List MissingRow → List ℕ
missing_text_of zone rows = text_in missing_columns (Some (codes "MISSING FIX REPORT FOR ZONE " ++ text_of zone)) (map missing_fields rows)
