-- The fields of a record by their number, and how many blanks a field has.
use Rattle.std.proofs.Common.{◌≡◌, ◌≢◌, ℕ, ◌≤◌, List, [], ◌∷◌, length, None, refl, arith}
use Rattle.std.specs.Option.{option_map, option_zip}
use Rattle.std.specs.List.{prefix_len, suffix_len}
use Rattle.std.proofs.lemmas.List.Sums.{prefix_len-le-length, suffix_len-le-length}
use Rattle.csv.specs.Records.{field_at}
use Rattle.zone_lists.specs.Fields.{Record, is_blank, trimmed, one_field, two_fields}

pub leading_fits : (field : List ℕ) → prefix_len is_blank field ≤ length field
leading_fits field = prefix_len-le-length is_blank field

pub trailing_fits : (field : List ℕ) → suffix_len is_blank field ≤ length field
trailing_fits field = suffix_len-le-length is_blank field

-- a record of another number of fields
pub not_one_field : (fields : Record) → length fields ≢ 1 → one_field fields ≡ None
not_one_field [] other = refl
not_one_field (a ∷ []) other = absurd (other refl)
not_one_field (a ∷ b ∷ more) other = refl

pub not_two_fields : (fields : Record) → length fields ≢ 2 → two_fields fields ≡ None
not_two_fields [] other = refl
not_two_fields (a ∷ []) other = refl
not_two_fields (a ∷ b ∷ []) other = absurd (other refl)
not_two_fields (a ∷ b ∷ c ∷ more) other = refl

-- a record of that number of fields, by their numbers
pub one_field_at : (fields : Record) → length fields ≡ 1 → one_field fields ≡ option_map trimmed (field_at fields 0)
unfolding field_at
one_field_at [] one = absurd (omega arith)
one_field_at (a ∷ []) one = refl
one_field_at (a ∷ b ∷ more) one = absurd (omega arith)

pub two_fields_at : (fields : Record) → length fields ≡ 2
    → two_fields fields ≡ option_zip (option_map trimmed (field_at fields 0)) (option_map trimmed (field_at fields 1))
unfolding field_at
two_fields_at [] two = absurd (omega arith)
two_fields_at (a ∷ []) two = absurd (omega arith)
two_fields_at (a ∷ b ∷ []) two = refl
two_fields_at (a ∷ b ∷ c ∷ more) two = absurd (omega arith)
