-- Small texts in columns, so that the definitions are seen to mean what they should.
use Rattle.std.specs.Prelude.{◌≡◌, ℕ, List, [], ◌∷◌, codes, Some, None, refl}
use Rattle.std.specs.Fmt.{digits}
use Rattle.columns.specs.Columns.{text_of, row_of}

abbrev zone_columns : List (ℕ × List ℕ)
zone_columns = (1, codes "ZONE") ∷ (10, codes "SYSMODS") ∷ []

pub no_zone : text_of zone_columns None [] ≡ codes "ZONE     SYSMODS\nROWS 0\n"
unfolding digits
no_zone = refl

pub two_zones : text_of zone_columns None ((codes "TGT1" ∷ codes "2" ∷ []) ∷ (codes "TGT12345" ∷ codes "20000" ∷ []) ∷ []) ≡ codes "ZONE     SYSMODS\nTGT1     2\nTGT12345 20000\nROWS 2\n"
unfolding digits
two_zones = refl

pub with_title : text_of zone_columns (Some (codes "ZONES OF ALPHA")) ((codes "TGT1" ∷ codes "2" ∷ []) ∷ []) ≡ codes "ZONES OF ALPHA\nZONE     SYSMODS\nTGT1     2\nROWS 1\n"
unfolding digits
with_title = refl

-- a field that is too long pushes the next one on
pub long_field : row_of zone_columns (codes "TGT1234567" ∷ codes "2" ∷ []) ≡ codes "TGT12345672\n"
long_field = refl

-- what stands in the last column isn't padded
pub last_column : row_of zone_columns (codes "TGT1" ∷ [] ∷ []) ≡ codes "TGT1     \n"
last_column = refl
