-- Why a list is refused: the first record that has a fault, and of its faults the first in their order.
use Rattle.std.specs.Prelude.{◌≡◌, ◌⊎◌, ◌≤◌, ℕ, ◌+◌, Bool, true, false, List, [], ◌∷◌, ◌++◌, length}
use Rattle.zone_lists.specs.Fields.{Record}
use Rattle.zone_lists.specs.Lists.{Contradicts, ListKind}
use Rattle.zone_lists.specs.declared.fault.ListFault.{ListFault}
use Rattle.zone_lists.specs.declared.fault.ListFault.TheVariants.{Header, BadRecord, BadId, BadState, BadPattern, Repeated, TooMany, Memory}

-- the order of the faults of one record: the first one is told
abbrev pub turn : ListFault → ℕ
turn Header = 0
turn TooMany = 1
turn (BadRecord n) = 2
turn (BadId n) = 3
turn (BadState n) = 4
turn (BadPattern n) = 5
turn (Repeated n) = 6
turn Memory = 7

-- a kind of list, and each fault that a record may have by itself
module _ {Entry : Type 0} (kind : ListKind Entry) (IsOwnFault : ℕ → Record → ListFault → Type 0) where
  -- a fault of a record that stands after these, told or not
  abbrev pub IsFaultAfter : List Record → Record → ListFault → Type 0
  IsFaultAfter earlier fields fault =
      ((fault ≡ TooMany) × (kind.limit ≤ length earlier))
      ⊎ (IsOwnFault (length earlier + 1) fields fault
      ⊎ ((fault ≡ Repeated (length earlier + 1)) × Contradicts kind earlier fields))

  -- none of these records has a fault
  abbrev pub AreFaultless : List Record → Type 0
  AreFaultless records =
      (earlier : List Record) (fields : Record) (rest : List Record) (fault : ListFault) → records ≡ earlier ++ fields ∷ rest → IsFaultAfter earlier fields fault → ⊥

  -- these records begin with the header
  abbrev pub begins_with_header : List Record → Bool
  begins_with_header [] = false
  begins_with_header (fields ∷ rest) = kind.is_header fields

  -- a record after the header has this fault, no earlier one has any, and none of its faults goes before this one
  pub record IsFaultOfRecord (records : List Record) (fault : ListFault) : Type 0 where
    pub header : Record
    pub earlier : List Record
    pub fields : Record
    pub rest : List Record
    pub whole : records ≡ header ∷ (earlier ++ fields ∷ rest)
    pub headed : kind.is_header header ≡ true
    pub faultless : AreFaultless earlier
    pub own : IsFaultAfter earlier fields fault
    pub first : (other : ListFault) → IsFaultAfter earlier fields other → turn fault ≤ turn other

  -- the header is missing, or else this is the first fault of the first record that has one
  abbrev pub IsFirstFault : List Record → ListFault → Type 0
  IsFirstFault records fault = ((fault ≡ Header) × (begins_with_header records ≡ false)) ⊎ IsFaultOfRecord records fault
