-- The rows that the bureau writes into a table: each is the row of one fit thing, and its lists are in order.
use Rattle.std.specs.Prelude.{◌≡◌, ℕ, List, IsTrue}
use Rattle.holddata.specs.declared.hold.Hold.{Hold}
use Rattle.mcs_reader.specs.Id.{IsId}
use Rattle.catalogue.specs.Ids.{Ascend}
use Rattle.catalogue.specs.declared.conditional.CondNeed.{CondNeed}
use Rattle.catalogue.specs.declared.sysmod.Sysmod.{Sysmod as Record}
use Rattle.bureau_store.specs.Callers.{is_token}
use Rattle.bureau_store.specs.Tables.{LastChange as Change, PatternsAscend}
use Rattle.bureau_store.specs.declared.caller.CallerRow.{CallerRow}
use Rattle.sqlite_value.specs.Order.{Row}
use Rattle.sql_tables.specs.Fit.{AreIds, IsHold, IsRecord}
use Rattle.sql_tables.specs.Rows.{caller_row, change_row, hold_row, received_row, sysmod_row}
use Rattle.sql_tables.specs.Whole.{Head, IsCondition, IsHead, IsMember, IsZoneSysmod, Listed, ZoneSysmod, condition_row, member_row, row_of_head, row_of_zone_sysmod}
use Rattle.sql_checks.specs.declared.table.StoreTable.{StoreTable}
use Rattle.sql_checks.specs.declared.table.StoreTable.TheVariants.{Caller, LastChange, Sysmod, SysmodSup, SysmodCond, HoldRow, ZoneHead, ZoneRow, ReceivedList}

abbrev pub IsWritten : StoreTable → Row → Type 0
IsWritten Caller row = (caller : CallerRow) × IsId caller.name × IsTrue (is_token caller.token) × (row ≡ caller_row caller)
IsWritten LastChange row = (name : List ℕ) × (last : Change) × IsId name × (row ≡ change_row name last)
IsWritten Sysmod row =
    (sysmod : Record) × IsRecord sysmod × Ascend sysmod.fmids × Ascend sysmod.pre × Ascend sysmod.req × (row ≡ sysmod_row sysmod)
IsWritten SysmodSup row = (member : Listed (List ℕ)) × IsMember member × (row ≡ member_row member)
IsWritten SysmodCond row = (condition : Listed CondNeed) × IsCondition condition × (row ≡ condition_row condition)
IsWritten HoldRow row = (hold : Hold) × IsHold hold × (row ≡ hold_row hold)
IsWritten ZoneHead row = (head : Head) × IsHead head × PatternsAscend head.patterns × (row ≡ row_of_head head)
IsWritten ZoneRow row = (sysmod : ZoneSysmod) × IsZoneSysmod sysmod × (row ≡ row_of_zone_sysmod sysmod)
IsWritten ReceivedList row = (client : List ℕ) × (ids : List (List ℕ)) × IsId client × AreIds ids × Ascend ids × (row ≡ received_row client ids)
