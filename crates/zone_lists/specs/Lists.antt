-- The reading of a client's list: the entries that its records stand for, or its first fault.
use Rattle.std.specs.Prelude.{◌≡◌, ◌⊎◌, ◌↔◌, ℕ, ◌+◌, Bool, true, false, List, [], ◌∷◌, ◌++◌, length, nat_le, Option, Some, None, Result, Ok, Err, if◌then◌else◌}
use Rattle.std.specs.List.{Contains, filter_map, fold, list_any}
use Rattle.std.specs.Option.{option_or}
use Rattle.std.specs.Result.{result_ok}
use Rattle.std.specs.BTreeSet.{insert_key}
use Rattle.std.specs.declared.cmp.Ordering.{Ordering}
use Rattle.csv.specs.Reading.{default_config, records, strip_bom}
use Rattle.zone_lists.specs.Fields.{Record}
use Rattle.zone_lists.specs.declared.fault.ListFault.{ListFault}
use Rattle.zone_lists.specs.declared.fault.ListFault.TheVariants.{Header, Repeated, TooMany}

-- the records of a text, the header among them, as RFC 4180 has it, after a UTF-8 mark at its very beginning
abbrev pub records_of : List ℕ → List Record
records_of text = records default_config (strip_bom text)

-- a fault of a record, told with the record's number
abbrev pub Numbered : Type 0
Numbered = ℕ → ListFault

-- a kind of list
pub record ListKind (Entry : Type 0) : Type 0 where
  -- whether a record is the header
  pub is_header : Record → Bool
  -- the most records that may stand after the header
  pub limit : ℕ
  -- the entry that a record stands for by itself, or its fault
  pub entry : Record → Result Entry Numbered
  -- the order of an answer, in which no two entries tie
  pub order : Entry → Entry → Ordering
  -- whether an entry contradicts an earlier one
  pub contradicts : Entry → Entry → Bool

-- entries that never contradict each other
abbrev pub never : {Entry : Type 0} → Entry → Entry → Bool
never entry other = false

-- the entry that a record with this number stands for, or its fault
abbrev pub at_number : {Entry : Type 0} → ℕ → Result Entry Numbered → Result Entry ListFault
at_number n (Ok entry) = Ok entry
at_number n (Err fault) = Err (fault n)

module _ {Entry : Type 0} (kind : ListKind Entry) where
  -- the entries that records stand for
  abbrev pub entries : List Record → List Entry
  entries records = filter_map (λ fields. result_ok (kind.entry fields)) records

  -- entries in ascending order, each once
  abbrev pub in_order : List Entry → List Entry
  in_order entries = fold (insert_key kind.order) [] entries

  -- the fault of a record with this number, by what it stands for, after these entries
  abbrev pub own_fault : ℕ → List Entry → Result Entry Numbered → Option ListFault
  own_fault n earlier (Err fault) = Some (fault n)
  own_fault n earlier (Ok entry) = if list_any (kind.contradicts entry) earlier then Some (Repeated n) else None

  -- the fault of a record that stands after these, if it has one
  abbrev pub fault_after : List Record → Record → Option ListFault
  fault_after earlier fields =
      if nat_le kind.limit (length earlier) then Some TooMany
      else own_fault (length earlier + 1) (entries earlier) (kind.entry fields)

  -- the first fault of records that stand after these
  abbrev pub first_fault : List Record → List Record → Option ListFault
  first_fault earlier [] = None
  first_fault earlier (fields ∷ rest) = option_or (fault_after earlier fields) (first_fault (earlier ++ fields ∷ []) rest)

  -- the entries of records in order, unless there is a fault
  abbrev pub unless : Option ListFault → List Entry → Result (List Entry) ListFault
  unless (Some fault) entries = Err fault
  unless None entries = Ok (in_order entries)

  -- the answer for the records of a list, of which the first is the header: all entries in order, or the first fault
  abbrev pub answer : List Record → Result (List Entry) ListFault
  answer [] = Err Header
  answer (header ∷ rest) = if kind.is_header header then unless (first_fault [] rest) (entries rest) else Err Header

  -- a record stands for this entry, which contradicts none of these
  abbrev pub StandsAfter : List Entry → Record → Entry → Type 0
  StandsAfter earlier fields entry = (kind.entry fields ≡ Ok entry) × (list_any (kind.contradicts entry) earlier ≡ false)

  -- one of these records stands for an entry
  abbrev pub AnyStandsFor : List Record → Entry → Type 0
  AnyStandsFor [] entry = ⊥
  AnyStandsFor (fields ∷ rest) entry = (kind.entry fields ≡ Ok entry) ⊎ AnyStandsFor rest entry

  -- a record stands for an entry that contradicts one of these
  abbrev pub Contradicts : List Record → Record → Type 0
  Contradicts earlier fields =
      (entry : Entry) × (other : Entry) × (kind.entry fields ≡ Ok entry) × AnyStandsFor earlier other × (kind.contradicts entry other ≡ true)

  -- a record after the header stands for an entry
  abbrev pub IsListed : List Record → Entry → Type 0
  IsListed [] entry = ⊥
  IsListed (header ∷ rest) entry = AnyStandsFor rest entry

  -- these entries are those that the records of a text stand for
  abbrev pub HasEach : List ℕ → List Entry → Type 0
  HasEach text all = (entry : Entry) → Contains all entry ↔ IsListed (records_of text) entry
