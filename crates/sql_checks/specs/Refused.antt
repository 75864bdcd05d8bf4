-- Why a look at a database is refused, other than for want of memory.
use Rattle.std.specs.Prelude.{◌≡◌, ◌≤◌, ◌⊎◌, ℕ, nat_lt, List, [], ◌∷◌, Option, Some, None, codes, if◌then◌else◌, length, map, option_and_then, option_map, sum_by}
use Rattle.std.specs.List.{Contains}
use Rattle.bureau_store.specs.Tables.{LastChange, NamesAscend}
use Rattle.bureau_store.specs.declared.caller.CallerRow.{CallerRow}
use Rattle.mcs_reader.specs.Id.{text_of}
use Rattle.sqlite.specs.Effect.{Database}
use Rattle.sqlite.specs.Query.{Query}
use Rattle.sqlite.specs.State.{State}
use Rattle.sqlite_value.specs.Order.{Row, column}
use Rattle.sqlite_value.specs.declared.value.Value.TheVariants.{Text}
use Rattle.sql_reads.specs.Version.{MeansNothing, Shows, Withholds}
use Rattle.sql_reads.specs.ZoneCounts.{zone_counted}
use Rattle.sql_tables.specs.Reading.{HasFailed}
use Rattle.sql_tables.specs.Rows.{caller_found, change_found}
use Rattle.sql_tables.specs.Values.{number_in}
use Rattle.sql_texts.specs.Meaning.{Reads}
use Rattle.sql_texts.specs.Reads as read
use Rattle.sql_texts.specs.Schema.{bureau}
use Rattle.sql_checks.specs.Kept.{known_of}
use Rattle.sql_checks.specs.Known.{Known, names_of, query_of}
use Rattle.sql_checks.specs.declared.table.StoreTable.{StoreTable}

-- The device has failed, or the connection was closed; or the committed database has this cause, under the limit of steps.
abbrev pub IsCausedBy : (Option ℕ → Database → Type 0) → State → State → Type 0
IsCausedBy Cause old new = HasFailed old new ⊎ Cause old.step_limit old.committed

-- ---- what is asked

-- a query, the names of its columns, and its parameters
pub record Question : Type 0 where
  pub query : Query
  pub names : List (List ℕ)
  pub params : Row

-- the version
abbrev pub of_version : Question
of_version = record { query = read.version; names = codes "version" ∷ []; params = [] }

-- all rows of a table
abbrev pub of_known : Known → Question
of_known known = record { query = query_of known; names = names_of known; params = [] }

abbrev pub of_rows : StoreTable → Question
of_rows table = of_known (known_of table)

-- all callers, each with its token
abbrev pub of_callers : Question
of_callers = record { query = read.callers; names = codes "name" ∷ codes "token" ∷ []; params = [] }

-- the count of a query
abbrev pub of_count : Query → Question
of_count query = record { query = query; names = codes "count(*)" ∷ []; params = [] }

-- the number of SYSMODs that are catalogued, and that of the holds
abbrev pub of_sysmods : Question
of_sysmods = of_count read.sysmod_count

abbrev pub of_holds : Question
of_holds = of_count read.hold_count

-- the last change of the caller of this name, and its zones, each with the number of its rows
abbrev pub of_last : List ℕ → Question
of_last name = record { query = read.last_change; names = codes "number" ∷ codes "body" ∷ []; params = Text (text_of name) ∷ [] }

abbrev pub of_zones : List ℕ → Question
of_zones name = record { query = read.zones; names = codes "zone" ∷ codes "sysmods" ∷ []; params = Text (text_of name) ∷ [] }

abbrev pub IsAskedBy : Question → List ℕ → Type 0
IsAskedBy what text = Reads bureau text what.query what.names (length what.params)

-- ---- what the rows of an answer say

-- a count, unless it is the greatest number that the database can count: there may be more
abbrev pub counted : ℕ → Option ℕ
counted count = if nat_lt count read.most_rows then Some count else None

-- the count in the one row
abbrev pub count_said : List Row → Option ℕ
count_said [] = None
count_said (row ∷ []) = option_and_then counted (number_in (column row 0))
count_said (row ∷ other ∷ rows) = None

-- the number of the last change: that of the one row, or 0 if there is no row
abbrev pub number_said : List Row → Option ℕ
number_said [] = Some 0
number_said (row ∷ []) = option_map (λ (change : LastChange). change.number) (change_found row)
number_said (row ∷ other ∷ rows) = None

abbrev pub SaysCount : List Row → ℕ → Type 0
SaysCount rows count = count_said rows ≡ Some count

abbrev pub SaysLast : List Row → ℕ → Type 0
SaysLast rows number = number_said rows ≡ Some number

-- the number of zones, and that of all their rows: no zone comes twice, and a number of 64 bits counts the rows
pub record IsCountOf (zones : List (List ℕ × ℕ)) (counts : ℕ × ℕ) : Type 0 where
  pub ascend : NamesAscend (map (λ zone. zone.0) zones)
  pub many : counts.0 ≡ length zones
  pub total : counts.1 ≡ sum_by (λ zone. zone.1) zones
  pub within : sum_by (λ zone. zone.1) zones ≤ 18446744073709551615

-- the same, with a zone in each row
abbrev pub SaysZones : List Row → ℕ × ℕ → Type 0
SaysZones rows counts = (zones : List (List ℕ × ℕ)) × (map Some zones ≡ map zone_counted rows) × IsCountOf zones counts

-- a caller in each row, in the order of their names
abbrev pub SaysCallers : List Row → List CallerRow → Type 0
SaysCallers rows callers = (map Some callers ≡ map caller_found rows) × NamesAscend (map (λ row. row.name) callers)

-- ---- why there is no answer

-- A text that asks it means something here, and still shows nothing: the limit of steps ends it.
abbrev pub IsWithheld : Question → Option ℕ → Database → Type 0
IsWithheld what limit database = (text : List ℕ) × IsAskedBy what text × Withholds limit text what.params database

-- Or it may mean nothing here.
abbrev pub IsUnshown : Question → Option ℕ → Database → Type 0
IsUnshown what limit database =
    (text : List ℕ) × IsAskedBy what text × (MeansNothing text database ⊎ Withholds limit text what.params database)

-- A text that asks it shows rows here without such an answer.
abbrev pub SaysNothing : {A : Type 0} → Question → (List Row → A → Type 0) → Database → Type 0
SaysNothing {A} what Says database =
    (text : List ℕ) × IsAskedBy what text × (rows : List Row) × Shows text what.params database rows × ((a : A) → Says rows a → ⊥)

abbrev pub IsUnsaid : {A : Type 0} → Question → (List Row → A → Type 0) → Option ℕ → Database → Type 0
IsUnsaid what Says limit database = IsUnshown what limit database ⊎ SaysNothing what Says database

-- The tables are the bureau's own, and the version isn't shown, or the rows of a table aren't.
abbrev pub IsUnread : Option ℕ → Database → Type 0
IsUnread limit database =
    (database.schema ≡ bureau) × (IsWithheld of_version limit database ⊎ ((table : StoreTable) × IsWithheld (of_rows table) limit database))

-- There is no answer to the number of SYSMODs or of holds.
abbrev pub AreUncounted : Option ℕ → Database → Type 0
AreUncounted limit database = IsUnsaid of_sysmods SaysCount limit database ⊎ IsUnsaid of_holds SaysCount limit database

-- There is no answer to how much the caller of this name has.
abbrev pub IsUncounted : List ℕ → Option ℕ → Database → Type 0
IsUncounted name limit database = IsUnsaid (of_last name) SaysLast limit database ⊎ IsUnsaid (of_zones name) SaysZones limit database

-- There is none for one of these callers.
abbrev pub AreUntallied : List CallerRow → Option ℕ → Database → Type 0
AreUntallied callers limit database = (caller : CallerRow) × Contains callers caller × IsUncounted caller.name limit database

-- A store can't be tallied: one of these answers is missing.
abbrev pub IsUntallied : List CallerRow → Option ℕ → Database → Type 0
IsUntallied callers limit database = AreUncounted limit database ⊎ AreUntallied callers limit database

-- ---- No part of what is promised: private contracts cite it. What is asked of a database whose tables may be others.

-- the rows of some table aren't shown
abbrev pub AreUnseen : Option ℕ → Database → Type 0
AreUnseen limit database = (table : StoreTable) × IsUnshown (of_rows table) limit database

-- or the version isn't
abbrev pub IsUnseen : Option ℕ → Database → Type 0
IsUnseen limit database = IsUnshown of_version limit database ⊎ AreUnseen limit database
