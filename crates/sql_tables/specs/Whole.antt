-- Rows that the bureau wrote: each is the row of one fit thing, and no two rows of a table have the same key.
use Rattle.std.specs.Prelude.{◌≡◌, ◌≢◌, ℕ, true, List, [], ◌∷◌, take}
use Rattle.std.specs.List.{AllByRecursion, list_all}
use Rattle.mcs_reader.specs.Id.{IsId}
use Rattle.zone_lists.specs.Pattern.{is_pattern}
use Rattle.zone_lists.specs.declared.zones.ZoneRow.{ZoneRow}
use Rattle.catalogue.specs.declared.conditional.CondNeed.{CondNeed}
use Rattle.bureau_store.specs.declared.caller.CallerRow.{CallerRow}
use Rattle.sqlite_value.specs.Order.{Row}
use Rattle.sql_tables.specs.Fit.{IsCond, IsHold, IsRecord, IsZoneRow}
use Rattle.sql_tables.specs.Rows.{caller_row, cond_row, head_row, hold_row, sup_row, sysmod_row, zone_row}
use Rattle.sql_tables.specs.Stored.{Stored}

-- each row is the row of something fit
abbrev pub AreRowsOf : {X : Type 0} → (X → Row) → (X → Type 0) → List Row → Type 0
AreRowsOf {X} row_of Fits rows = AllByRecursion (λ row. (x : X) × Fits x × (row ≡ row_of x)) rows

-- no two rows have the same first columns, so many of them
abbrev pub HaveOwnKeys : ℕ → List Row → Type 0
HaveOwnKeys columns [] = Unit {0}
HaveOwnKeys columns (row ∷ rows) =
    AllByRecursion (λ other. take columns row ≢ take columns other) rows × HaveOwnKeys columns rows

-- one entry of a record's list, with the id of the record
pub record Listed (X : Type 0) : Type 0 where
  pub id : List ℕ
  pub one : X

-- an id that it supersedes
abbrev pub member_row : Listed (List ℕ) → Row
member_row member = sup_row member.id member.one

abbrev pub IsMember : Listed (List ℕ) → Type 0
IsMember member = IsId member.id × IsId member.one

-- a requisite under a condition
abbrev pub condition_row : Listed CondNeed → Row
condition_row condition = cond_row condition.id condition.one

abbrev pub IsCondition : Listed CondNeed → Type 0
IsCondition condition = IsId condition.id × IsCond condition.one

-- a zone of a client, with its patterns
pub record Head : Type 0 where
  pub client : List ℕ
  pub zone : List ℕ
  pub patterns : List (List ℕ)

abbrev pub row_of_head : Head → Row
row_of_head head = head_row head.client head.zone head.patterns

abbrev pub IsHead : Head → Type 0
IsHead head = IsId head.client × IsId head.zone × (list_all is_pattern head.patterns ≡ true)

-- a SYSMOD of a client's zone
pub record ZoneSysmod : Type 0 where
  pub client : List ℕ
  pub zone : List ℕ
  pub row : ZoneRow

abbrev pub row_of_zone_sysmod : ZoneSysmod → Row
row_of_zone_sysmod sysmod = zone_row sysmod.client sysmod.zone sysmod.row

abbrev pub IsZoneSysmod : ZoneSysmod → Type 0
IsZoneSysmod sysmod = IsId sysmod.client × IsId sysmod.zone × IsZoneRow sysmod.row

pub record IsWhole (stored : Stored) : Type 0 where
  pub callers : AreRowsOf caller_row (λ (caller : CallerRow). IsId caller.name) stored.callers
  pub sysmods : AreRowsOf sysmod_row IsRecord stored.sysmods
  pub sysmod_keys : HaveOwnKeys 1 stored.sysmods
  pub sups : AreRowsOf member_row IsMember stored.sups
  pub conds : AreRowsOf condition_row IsCondition stored.conds
  pub holds : AreRowsOf hold_row IsHold stored.holds
  pub hold_keys : HaveOwnKeys 3 stored.holds
  pub heads : AreRowsOf row_of_head IsHead stored.heads
  pub head_keys : HaveOwnKeys 2 stored.heads
  pub rows : AreRowsOf row_of_zone_sysmod IsZoneSysmod stored.rows
  pub row_keys : HaveOwnKeys 3 stored.rows
