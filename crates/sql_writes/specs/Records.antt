-- No part of what is promised: private contracts cite it. Records of the catalogue that are put together.
use Rattle.std.specs.Prelude.{◌≡◌, ◌≤◌, ◌≢◌, ◌⊎◌, ℕ, suc, Bool, false, IsTrue, List, [], ◌∷◌, ◌++◌, drop, length, map, take}
use Rattle.std.specs.List.{AllByRecursion, list_any}
use Rattle.mcs_reader.specs.Id.{IsId, text_of}
use Rattle.catalogue.specs.declared.change.Change.{Change}
use Rattle.catalogue.specs.declared.change.Change.TheVariants.{Whole, OfHold}
use Rattle.catalogue.specs.declared.sysmod.Sysmod.{Sysmod}
use Rattle.sqlite_value.specs.Order.{Row, column}
use Rattle.sqlite_value.specs.declared.value.Value.TheVariants.{Text}
use Rattle.sql_texts.specs.Found.{is_text}
use Rattle.sql_tables.specs.Changes.{coming, going, holds_changed, instead}
use Rattle.sql_tables.specs.Rows.{cond_row, sup_row, sysmod_row}
use Rattle.sql_tables.specs.Stored.{Stored, cond_table, is_of, is_of_both, sup_table, sysmod_table}
use Rattle.sql_tables.specs.Values.{id_value, sysmod_kind_value}
use Rattle.sql_writes.specs.Many.{AreNew}
use Rattle.sql_writes.specs.Room.{rows_of_change}
use Rattle.sql_writes.specs.declared.records.SupRow.{SupRow}
use Rattle.sql_writes.specs.declared.records.SysmodRow.{SysmodRow}

-- the columns of a record's row
abbrev pub values_of : SysmodRow → Row
values_of row =
    id_value row.id ∷ sysmod_kind_value row.kind ∷ Text row.fmids.items ∷ Text row.pre.items ∷ Text row.req.items ∷ []

-- whether a row's first column is the text of this record's id
abbrev pub has_id_of : SysmodRow → Row → Bool
has_id_of row other = is_text (text_of row.id) (column other 0)

-- its lists are not too long for one row
abbrev pub IsShortRow : SysmodRow → Type 0
IsShortRow row =
    (length row.fmids.items ≤ 300000000)
    × ((length row.pre.items ≤ 300000000) × (length row.req.items ≤ 300000000))

-- the columns of the row of a superseded id
abbrev pub member_values : SupRow → Row
member_values row = sup_row row.id row.member

-- the row of a record; a change of a hold makes none
abbrev pub record_rows : Change → List Row
record_rows (Whole sysmod) = sysmod_row sysmod ∷ []
record_rows (OfHold change) = []

-- the ids that a record supersedes, one by one
abbrev pub pairs : List ℕ → List (List ℕ) → List SupRow
pairs id members = map (λ member. record { id = id; member = member }) members

abbrev pub sups_of : Change → List SupRow
sups_of (Whole sysmod) = pairs sysmod.id sysmod.sup
sups_of (OfHold change) = []

-- the number of rows that a change adds beside the row of a record and those of the ids that it supersedes
abbrev pub rest_count : Change → ℕ
rest_count (Whole sysmod) = length sysmod.conds
rest_count (OfHold change) = rows_of_change (OfHold change)

-- ---- what they change

-- the row of a record goes, and those of the ids that it supersedes
abbrev pub record_gone : Stored → Change → Stored
record_gone stored (Whole sysmod) = going sup_table (is_of sysmod.id) (going sysmod_table (is_of sysmod.id) stored)
record_gone stored (OfHold change) = stored

-- rows of records come
abbrev pub with_sysmods : List SysmodRow → Stored → Stored
with_sysmods rows = coming sysmod_table (map values_of rows)

-- rows of superseded ids come
abbrev pub with_members : List SupRow → Stored → Stored
with_members rows = coming sup_table (map member_values rows)

-- the requisites of a record under a condition replace those that are there, or a hold comes or goes
abbrev pub rest_put : Stored → Change → Stored
rest_put stored (Whole sysmod) = instead cond_table (is_of sysmod.id) (map (cond_row sysmod.id) sysmod.conds) stored
rest_put stored (OfHold change) = record stored { holds = holds_changed change stored.holds }

-- ---- which may be put together

-- the first change is of this record
abbrev pub Begins : Sysmod → List Change → Type 0
Begins first changes = Whole first ∷ drop 1 changes ≡ changes

-- no record of this id
abbrev pub IsApart : List ℕ → Change → Type 0
IsApart id (Whole sysmod) = IsId id × (id ≢ sysmod.id)
IsApart id (OfHold change) = Unit {0}

-- no two records are of one id
abbrev pub AreApart : List Change → Type 0
AreApart [] = Unit {0}
AreApart (Whole sysmod ∷ changes) = AllByRecursion (IsApart sysmod.id) changes × AreApart changes
AreApart (OfHold change ∷ changes) = AreApart changes

-- the number of records
abbrev pub records_in : List Change → ℕ
records_in [] = 0
records_in (Whole sysmod ∷ changes) = suc (records_in changes)
records_in (OfHold change ∷ changes) = records_in changes

-- one change alone, or eight records with the changes of holds between them
abbrev pub IsTogether : List Change → Type 0
IsTogether changes = (length changes ≡ 1) ⊎ ((records_in (take 1 changes) ≡ 1) × (records_in changes ≡ 8) × AreApart changes)

-- none of the superseded ids of records is among these rows, nor comes twice
abbrev pub AreNewMembers : List SupRow → List Row → Type 0
AreNewMembers = AreNew (λ row. is_of_both row.id row.member) member_values

-- none of these records is among these rows, nor comes twice
abbrev pub AreNewRecords : List Change → List Row → Type 0
AreNewRecords [] rows = Unit {0}
AreNewRecords (Whole sysmod ∷ changes) rows =
    (list_any (is_of sysmod.id) rows ≡ false) × AreNewRecords changes (rows ++ sysmod_row sysmod ∷ [])
AreNewRecords (OfHold change ∷ changes) rows = AreNewRecords changes rows

-- ---- where nothing stands of them

-- the id of a record; a change of a hold has none
abbrev pub ids_in : Change → List (List ℕ)
ids_in (Whole sysmod) = sysmod.id ∷ []
ids_in (OfHold change) = []

-- no record is catalogued, and no record has rows of superseded ids or of requisites under a condition
abbrev pub IsBare : Stored → Type 0
IsBare stored = (stored.sysmods ≡ []) × ((stored.sups ≡ []) × (stored.conds ≡ []))

-- no row is of this record
abbrev pub NoneOf : List Row → Change → Type 0
NoneOf rows (Whole sysmod) = list_any (is_of sysmod.id) rows ≡ false
NoneOf rows (OfHold change) = Unit {0}

-- no record's id has rows, and no two records have one id
pub record AreFree (changes : List Change) (stored : Stored) : Type 0 where
  pub apart : AreApart changes
  pub sysmods : AllByRecursion (NoneOf stored.sysmods) changes
  pub sups : AllByRecursion (NoneOf stored.sups) changes
  pub conds : AllByRecursion (NoneOf stored.conds) changes

-- it is so if a read found it so
abbrev pub FreeIf : Bool → List Change → Stored → Type 0
FreeIf found changes stored = IsTrue found → AreFree changes stored

-- a record without requisites under a condition
abbrev pub HasNoRest : Change → Type 0
HasNoRest (Whole sysmod) = sysmod.conds ≡ []
HasNoRest (OfHold change) = ⊥
