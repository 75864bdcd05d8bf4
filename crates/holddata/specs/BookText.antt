-- The hold book in print.
use Rattle.std.specs.Prelude.{ℕ, List, [], ◌∷◌, codes, map, Option, None}
use Rattle.std.specs.Option.{option_map_or}
use Rattle.std.specs.List.{join_with_byte}
use Rattle.mcs_reader.specs.Id.{text_of}
use Rattle.holddata.specs.declared.hold.Hold.{Hold}
use Rattle.holddata.specs.HoldKey.{kind_name}
use Rattle.holddata.specs.Date.{date_digits}
use Rattle.columns.specs.Columns.{text_of as text_in}

-- the column at which each field begins, and its heading
abbrev pub hold_columns : List (ℕ × List ℕ)
hold_columns =
    (1, codes "SYSMOD") ∷ (10, codes "KIND") ∷ (18, codes "REASON") ∷ (27, codes "FMID") ∷ (36, codes "CLASS")
    ∷ (45, codes "DATE") ∷ (52, codes "RESOLVER") ∷ (61, codes "CATEGORY") ∷ []

-- an id, or a dash if there is none
abbrev pub id_field : Option (List ℕ) → List ℕ
id_field id = option_map_or text_of id (codes "-")

abbrev pub date_field : Option ℕ → List ℕ
date_field date = option_map_or date_digits date (codes "-")

-- the categories with commas between, or a dash
abbrev pub category_field : List (List ℕ) → List ℕ
category_field [] = codes "-"
category_field (category ∷ categories) = join_with_byte 44 (category ∷ categories)

-- the fields of a hold's row
abbrev pub hold_fields : Hold → List (List ℕ)
hold_fields hold =
    text_of hold.key.sysmod ∷ kind_name hold.key.kind ∷ text_of hold.key.reason ∷ id_field hold.fmid ∷ id_field hold.class
    ∷ date_field hold.dated ∷ id_field hold.resolver ∷ category_field hold.categories ∷ []

-- the text of a book: a row for each hold, in the order of the keys
abbrev pub book_text : List Hold → List ℕ
book_text book = text_in hold_columns None (map hold_fields book)
