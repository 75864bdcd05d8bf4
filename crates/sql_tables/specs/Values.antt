-- How the columns of the tables keep values. An id is a text without blanks, and an absent id is the empty text. A list is a
-- text with commas between, empty if the list is. Kinds, states and dates are numbers. Each value is read back as what was
-- written, and any other value as nothing.
use Rattle.std.specs.Prelude.{ℕ, pos, negsuc, ◌==◌, Bool, List, [], ◌∷◌, map, Option, Some, None, option_map, option_and_then, if◌then◌else◌}
use Rattle.std.specs.List.{join_with_byte, slice_split}
use Rattle.holddata.specs.Categories.{are_categories}
use Rattle.holddata.specs.Date.{date_with}
use Rattle.holddata.specs.HoldKey.{kind_order}
use Rattle.holddata.specs.declared.key.Kind.{Kind}
use Rattle.holddata.specs.declared.key.Kind.TheVariants.{ErrorHold, SystemHold, UserHold, FixcatHold}
use Rattle.mcs_reader.specs.Id.{id_of, text_of}
use Rattle.catalogue.specs.declared.sysmod.SysmodKind.{SysmodKind}
use Rattle.catalogue.specs.declared.sysmod.SysmodKind.TheVariants.{Func, Ptf, Apar, Usermod}
use Rattle.zone_lists.specs.Pattern.{pattern_of}
use Rattle.zone_lists.specs.declared.zones.ZoneState.{ZoneState}
use Rattle.zone_lists.specs.declared.zones.ZoneState.TheVariants.{Applied, Accepted, Superseded}
use Rattle.sqlite_value.specs.declared.value.Value.{Value}
use Rattle.sqlite_value.specs.declared.value.Value.TheVariants.{Null, Int, Real, Text, Blob}

-- ---- texts and numbers

-- the bytes of a text; any other value has none
abbrev pub text_in : Value → List ℕ
text_in (Text t) = t
text_in (Blob b) = []
text_in (Int n) = []
text_in (Real x) = []
text_in Null = []

-- the bytes of a blob
abbrev pub bytes_in : Value → Option (List ℕ)
bytes_in (Blob b) = Some b
bytes_in (Text t) = None
bytes_in (Int n) = None
bytes_in (Real x) = None
bytes_in Null = None

-- a number, if it is at least 0
abbrev pub number_in : Value → Option ℕ
number_in (Int (pos n)) = Some n
number_in (Int (negsuc n)) = None
number_in (Text t) = None
number_in (Blob b) = None
number_in (Real x) = None
number_in Null = None

-- ---- ids

abbrev pub id_in : Value → Option (List ℕ)
id_in value = id_of (text_in value)

abbrev pub id_value : List ℕ → Value
id_value id = Text (text_of id)

-- an id that may be absent: the empty text
abbrev pub optional_id_with : List ℕ → Option (Option (List ℕ))
optional_id_with [] = Some None
optional_id_with (b ∷ text) = option_map Some (id_of (b ∷ text))

abbrev pub optional_id_in : Value → Option (Option (List ℕ))
optional_id_in (Text t) = optional_id_with t
optional_id_in (Blob b) = None
optional_id_in (Int n) = None
optional_id_in (Real x) = None
optional_id_in Null = None

abbrev pub optional_id_value : Option (List ℕ) → Value
optional_id_value None = Text []
optional_id_value (Some id) = id_value id

-- ---- lists

abbrev pub is_comma : ℕ → Bool
is_comma b = b == 0x2C

-- the parts between the commas of a text; none of an empty one
abbrev pub parts_of : List ℕ → List (List ℕ)
parts_of [] = []
parts_of (b ∷ bytes) = slice_split is_comma (b ∷ bytes)

abbrev pub texts_in : Value → Option (List (List ℕ))
texts_in (Text t) = Some (parts_of t)
texts_in (Blob b) = None
texts_in (Int n) = None
texts_in (Real x) = None
texts_in Null = None

abbrev pub texts_value : List (List ℕ) → Value
texts_value texts = Text (join_with_byte 0x2C texts)

-- the ids of texts, if each has one
abbrev pub ids_of : List (List ℕ) → Option (List (List ℕ))
ids_of [] = Some []
ids_of (text ∷ texts) = option_and_then (λ id. option_map (λ ids. id ∷ ids) (ids_of texts)) (id_of text)

abbrev pub ids_in : Value → Option (List (List ℕ))
ids_in value = option_and_then ids_of (texts_in value)

abbrev pub ids_value : List (List ℕ) → Value
ids_value ids = texts_value (map text_of ids)

-- the texts, if each is a pattern of fix categories
abbrev pub patterns_of : List (List ℕ) → Option (List (List ℕ))
patterns_of [] = Some []
patterns_of (text ∷ texts) =
    option_and_then (λ pattern. option_map (λ patterns. pattern ∷ patterns) (patterns_of texts))
    (pattern_of text)

abbrev pub patterns_in : Value → Option (List (List ℕ))
patterns_in value = option_and_then patterns_of (texts_in value)

-- the texts, if they are categories in order
abbrev pub categories_of : List (List ℕ) → Option (List (List ℕ))
categories_of texts = if are_categories texts then Some texts else None

abbrev pub categories_in : Value → Option (List (List ℕ))
categories_in value = option_and_then categories_of (texts_in value)

-- ---- kinds, states and dates

-- the entry with a number
abbrev pub with_number : {X : Type 0} → List (ℕ × X) → ℕ → Option X
with_number [] number = None
with_number (entry ∷ entries) number = if number == entry.0 then Some entry.1 else with_number entries number

-- 0 for a function, 1 for a PTF, 2 for an APAR, 3 for a USERMOD
abbrev pub sysmod_kind_order : SysmodKind → ℕ
sysmod_kind_order Func = 0
sysmod_kind_order Ptf = 1
sysmod_kind_order Apar = 2
sysmod_kind_order Usermod = 3

abbrev pub sysmod_kind_in : Value → Option SysmodKind
sysmod_kind_in value =
    option_and_then (with_number ((0, Func) ∷ (1, Ptf) ∷ (2, Apar) ∷ (3, Usermod) ∷ [])) (number_in value)

abbrev pub sysmod_kind_value : SysmodKind → Value
sysmod_kind_value kind = Int (pos (sysmod_kind_order kind))

-- 0 for ERROR, 1 for SYSTEM, 2 for USER, 3 for FIXCAT: the order of kinds
abbrev pub hold_kind_in : Value → Option Kind
hold_kind_in value =
    option_and_then (with_number ((0, ErrorHold) ∷ (1, SystemHold) ∷ (2, UserHold) ∷ (3, FixcatHold) ∷ []))
    (number_in value)

abbrev pub hold_kind_value : Kind → Value
hold_kind_value kind = Int (pos (kind_order kind))

-- 0 for APPLIED, 1 for ACCEPTED, 2 for SUPERSEDED
abbrev pub state_order : ZoneState → ℕ
state_order Applied = 0
state_order Accepted = 1
state_order Superseded = 2

abbrev pub state_in : Value → Option ZoneState
state_in value =
    option_and_then (with_number ((0, Applied) ∷ (1, Accepted) ∷ (2, Superseded) ∷ [])) (number_in value)

abbrev pub state_value : ZoneState → Value
state_value state = Int (pos (state_order state))

-- a date is the number yyddd, and an absent one is -1
abbrev pub date_in : Value → Option (Option ℕ)
date_in (Int (pos n)) = option_map Some (date_with n)
date_in (Int (negsuc n)) = if n == 0 then Some None else None
date_in (Text t) = None
date_in (Blob b) = None
date_in (Real x) = None
date_in Null = None

abbrev pub date_value : Option ℕ → Value
date_value None = Int (negsuc 0)
date_value (Some number) = Int (pos number)
