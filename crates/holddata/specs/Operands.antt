-- The operands of a statement that say something of a hold.
use Rattle.std.specs.Prelude.{ℕ, ◌&&◌, ◌||◌, not, Bool, true, false, List, [], ◌∷◌, codes, Option, Some, None, is_none, if◌then◌else◌}
use Rattle.std.specs.List.{list_all, filter_map, flat_map}
use Rattle.std.specs.Str.{str_eq_ignore_ascii_case}
use Rattle.mcs_reader.specs.OperandText.{OperandText}
use Rattle.mcs_reader.specs.Id.{id_of}
use Rattle.holddata.specs.declared.key.Kind.{Kind}
use Rattle.holddata.specs.declared.key.Kind.TheVariants.{ErrorHold, SystemHold, UserHold, FixcatHold}
use Rattle.holddata.specs.HoldKey.{is_same_kind}
use Rattle.holddata.specs.Date.{date_of}

-- whether a name is one of two, which are in capitals; names are compared without regard to case
abbrev pub is_either : List ℕ → List ℕ → List ℕ → Bool
is_either name long short = str_eq_ignore_ascii_case name long || str_eq_ignore_ascii_case name short

-- the kind of hold that an operand of this name names
abbrev pub kind_named : List ℕ → Option Kind
kind_named name =
    if is_either name (codes "ERROR") (codes "ERR") then Some ErrorHold
    else if is_either name (codes "SYSTEM") (codes "SYS") then Some SystemHold
    else if str_eq_ignore_ascii_case name (codes "USER") then Some UserHold
    else if str_eq_ignore_ascii_case name (codes "FIXCAT") then Some FixcatHold
    else None

-- the kinds that operands name, in order
abbrev pub kinds_of : List OperandText → List Kind
kinds_of operands = filter_map (λ operand. kind_named operand.name) operands

-- the one kind that is named, once or more often
abbrev pub the_kind : List Kind → Option Kind
the_kind [] = None
the_kind (kind ∷ kinds) = if list_all (is_same_kind kind) kinds then Some kind else None

-- the values of an operand, if it has this name
abbrev pub named_values : List ℕ → OperandText → List (List ℕ)
named_values name operand = if str_eq_ignore_ascii_case operand.name name then operand.values else []

-- the values of the operands of this name, in order: an operand that comes twice has its values joined
abbrev pub values_of : List ℕ → List OperandText → List (List ℕ)
values_of name operands = flat_map (named_values name) operands

abbrev pub is_nothing : {A : Type 0} → List A → Bool
is_nothing [] = true
is_nothing (x ∷ xs) = false

-- the one value, as an id
abbrev pub the_id : List (List ℕ) → Option (List ℕ)
the_id [] = None
the_id (value ∷ []) = id_of value
the_id (value ∷ next ∷ values) = None

-- the one value, as a date
abbrev pub the_date : List (List ℕ) → Option ℕ
the_date [] = None
the_date (value ∷ []) = date_of value
the_date (value ∷ next ∷ values) = None

-- values that are there and are not one id
abbrev pub is_bad_id : List (List ℕ) → Bool
is_bad_id values = not (is_nothing values) && is_none (the_id values)

-- values that are there and are not one date
abbrev pub is_bad_date : List (List ℕ) → Bool
is_bad_date values = not (is_nothing values) && is_none (the_date values)
