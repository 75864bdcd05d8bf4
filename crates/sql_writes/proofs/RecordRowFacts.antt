-- The rows of records in the words of the records: they are short, and new where the records are.
use Rattle.std.proofs.Common.{◌≡◌, ◌++◌, true, false, List, [], ◌∷◌, map, sym, ◌∙◌, ap, subst}
use Rattle.std.specs.Prelude.{flat_map}
use Rattle.std.specs.List.{AllByRecursion, list_all, list_any}
use Rattle.std.proofs.lemmas.Bool.{and_parts}
use Rattle.mcs_reader.specs.Id.{text_of}
use Rattle.catalogue.specs.declared.change.Change.{Change}
use Rattle.catalogue.specs.declared.change.Change.TheVariants.{OfHold, Whole}
use Rattle.catalogue.specs.declared.sysmod.Sysmod.{Sysmod}
use Rattle.sqlite.specs.Order.{Row, column}
use Rattle.sql_texts.specs.Found.{is_text}
use Rattle.sql_tables.specs.Fit.{IsFitChange}
use Rattle.sql_tables.specs.Rows.{sysmod_row}
use Rattle.sql_tables.proofs.TextFacts.{text_named}
use Rattle.sql_writes.specs.Many.{AreNew}
use Rattle.sql_writes.specs.Records.{AreNewRecords, IsShortRow, has_id_of, record_rows, values_of}
use Rattle.sql_writes.specs.Room.{are_short_ids, is_short_change}
use Rattle.sql_writes.specs.declared.records.SysmodRow.{SysmodRow}
use Rattle.sql_writes.proofs.RoomFacts.{text_short}

-- a row that is a record's has its text of the id, and its lists
id_is : (row : SysmodRow) (sysmod : Sysmod) → values_of row ≡ sysmod_row sysmod → text_of row.id ≡ text_of sysmod.id
id_is row sysmod same = cc

short_row : (row : SysmodRow) (sysmod : Sysmod) → values_of row ≡ sysmod_row sysmod → is_short_change (Whole sysmod) ≡ true → IsShortRow row
short_row row sysmod same short =
    let parts = and_parts (are_short_ids sysmod.fmids) _ short in
    let rest = and_parts (are_short_ids sysmod.pre) (are_short_ids sysmod.req) parts.1 in
    (text_short _ _ (ap (λ row. column row 2) same) parts.0, (text_short _ _ (ap (λ row. column row 3) same) rest.0, text_short _ _ (ap (λ row. column row 4) same) rest.1))

-- the first of some rows, and the others
first_is : {a b : Row} {xs ys : List Row} → ◌≡◌ {A = List Row} (a ∷ xs) (b ∷ ys) → a ≡ b
first_is same = cc

rest_is : {a b : Row} {xs ys : List Row} → ◌≡◌ {A = List Row} (a ∷ xs) (b ∷ ys) → xs ≡ ys
rest_is same = cc

pub rows_short : (records : List Change) (rows : List SysmodRow) → map values_of rows ≡ flat_map record_rows records → list_all is_short_change records ≡ true → AllByRecursion IsShortRow rows
rows_short [] [] same short = tt
rows_short [] (row ∷ rows) same short = absurd (cc)
rows_short (Whole sysmod ∷ records) [] same short = absurd (cc)
rows_short (Whole sysmod ∷ records) (row ∷ rows) same short =
    let both = and_parts (is_short_change (Whole sysmod)) (list_all is_short_change records) short in
    (short_row row sysmod (first_is same) both.0, rows_short records rows (rest_is same) both.1)
rows_short (OfHold change ∷ records) rows same short = rows_short records rows same (and_parts (is_short_change (OfHold change)) (list_all is_short_change records) short).1

pub rows_new : (records : List Change) (rows : List SysmodRow) → map values_of rows ≡ flat_map record_rows records → AllByRecursion IsFitChange records → (all : List Row) → AreNewRecords records all
    → AreNew has_id_of values_of rows all
rows_new [] [] same fit all new = tt
rows_new [] (row ∷ rows) same fit all new = absurd (cc)
rows_new (Whole sysmod ∷ records) [] same fit all new = absurd (cc)
rows_new (Whole sysmod ∷ records) (row ∷ rows) same fit all new =
    let first = first_is same in (
      subst (λ text. list_any (λ other. is_text text (column other 0)) all ≡ false) (sym (id_is row sysmod first))
          (ap (λ test. list_any test all) (λ i other. text_named sysmod.id fit.0.id (column other 0) i) ∙ new.0),
      subst (λ one. AreNew has_id_of values_of rows (all ++ one ∷ [])) (sym first) (rows_new records rows (rest_is same) fit.1 (all ++ sysmod_row sysmod ∷ []) new.1),
    )
rows_new (OfHold change ∷ records) rows same fit all new = rows_new records rows same fit.1 all new
