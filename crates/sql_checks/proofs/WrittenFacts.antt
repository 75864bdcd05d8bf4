-- A row that the bureau writes keeps to its table.
use Rattle.std.proofs.Common.{◌≡◌, ℕ, List, [], ◌∷◌, IsTrue, ap, refl, subst, sym}
use Rattle.std.specs.Prelude.{is_some}
use Rattle.std.specs.List.{AllByRecursion}
use Rattle.holddata.specs.declared.hold.Hold.{Hold}
use Rattle.mcs_reader.specs.Id.{IsId}
use Rattle.catalogue.specs.Ids.{Ascend}
use Rattle.catalogue.specs.declared.conditional.CondNeed.{CondNeed}
use Rattle.catalogue.specs.declared.sysmod.Sysmod.{Sysmod as Record}
use Rattle.bureau_store.specs.Callers.{is_token}
use Rattle.bureau_store.specs.Tables.{LastChange as Change, PatternsAscend}
use Rattle.bureau_store.specs.declared.caller.CallerRow.{CallerRow}
use Rattle.sqlite_value.specs.Order.{Row}
use Rattle.sql_tables.proofs.ListValueFacts.{ids_again, patterns_again}
use Rattle.sql_tables.proofs.RowFacts.{hold_again}
use Rattle.sql_tables.proofs.ValueFacts.{id_again, state_again, sysmod_kind_again}
use Rattle.sql_tables.specs.Fit.{AreIds, IsHold, IsRecord}
use Rattle.sql_tables.specs.Rows.{caller_row, change_row, hold_row, received_row, sysmod_row}
use Rattle.sql_tables.specs.Stored.{Stored}
use Rattle.sql_tables.specs.Whole.{AreRowsOf, Head, IsCondition, IsHead, IsMember, IsWhole, IsZoneSysmod, Listed, ZoneSysmod, condition_row, member_row, row_of_head, row_of_zone_sysmod}
use Rattle.sql_checks.specs.Kept.{KeepTo, KeepsTo}
use Rattle.sql_checks.specs.Written.{IsWritten}
use Rattle.sql_checks.specs.declared.table.StoreTable.{StoreTable}
use Rattle.sql_checks.specs.declared.table.StoreTable.TheVariants.{Caller, LastChange, Sysmod, SysmodSup, SysmodCond, HoldRow, ZoneHead, ZoneRow, ReceivedList}

caller_keeps : (caller : CallerRow) → IsId caller.name → IsTrue (is_token caller.token) → KeepsTo Caller (caller_row caller)
caller_keeps caller name token = (ap is_some (id_again caller.name name), token)

change_keeps : (name : List ℕ) (last : Change) → IsId name → KeepsTo LastChange (change_row name last)
change_keeps name last is = (ap is_some (id_again name is), refl, refl)

record_keeps : (sysmod : Record) → IsRecord sysmod → Ascend sysmod.fmids → Ascend sysmod.pre → Ascend sysmod.req → KeepsTo Sysmod (sysmod_row sysmod)
record_keeps sysmod is fmids pre req = (
  ap is_some (id_again sysmod.id is.id),
  ap is_some (sysmod_kind_again sysmod.kind),
  (sysmod.fmids, ids_again sysmod.fmids is.fmids, fmids),
  (sysmod.pre, ids_again sysmod.pre is.pre, pre),
  (sysmod.req, ids_again sysmod.req is.req, req),
)

member_keeps : (member : Listed (List ℕ)) → IsMember member → KeepsTo SysmodSup (member_row member)
member_keeps member is = (ap is_some (id_again member.id is.0), ap is_some (id_again member.one is.1))

condition_keeps : (condition : Listed CondNeed) → IsCondition condition → KeepsTo SysmodCond (condition_row condition)
condition_keeps condition is =
    (ap is_some (id_again condition.id is.0), ap is_some (id_again condition.one.fmid is.1.0), ap is_some (id_again condition.one.need is.1.1))

hold_keeps : (hold : Hold) → IsHold hold → KeepsTo HoldRow (hold_row hold)
hold_keeps hold is = ap is_some (hold_again hold is)

head_keeps : (head : Head) → IsHead head → PatternsAscend head.patterns → KeepsTo ZoneHead (row_of_head head)
head_keeps head is ascend =
    (ap is_some (id_again head.client is.0), ap is_some (id_again head.zone is.1), (head.patterns, patterns_again head.patterns is.2, ascend))

zone_sysmod_keeps : (sysmod : ZoneSysmod) → IsZoneSysmod sysmod → KeepsTo ZoneRow (row_of_zone_sysmod sysmod)
zone_sysmod_keeps sysmod is = (
  ap is_some (id_again sysmod.client is.0),
  ap is_some (id_again sysmod.zone is.1),
  ap is_some (id_again sysmod.row.sysmod is.2.sysmod),
  ap is_some (state_again sysmod.row.state),
)

received_keeps : (client : List ℕ) (ids : List (List ℕ)) → IsId client → AreIds ids → Ascend ids → KeepsTo ReceivedList (received_row client ids)
received_keeps client ids is are ascend = (ap is_some (id_again client is), (ids, ids_again ids are, ascend))

pub written_keep : (table : StoreTable) (row : Row) → IsWritten table row → KeepsTo table row
written_keep Caller row is = subst (KeepsTo Caller) (sym is.3) (caller_keeps is.0 is.1 is.2)
written_keep LastChange row is = subst (KeepsTo LastChange) (sym is.3) (change_keeps is.0 is.1 is.2)
written_keep Sysmod row is = subst (KeepsTo Sysmod) (sym is.5) (record_keeps is.0 is.1 is.2 is.3 is.4)
written_keep SysmodSup row is = subst (KeepsTo SysmodSup) (sym is.2) (member_keeps is.0 is.1)
written_keep SysmodCond row is = subst (KeepsTo SysmodCond) (sym is.2) (condition_keeps is.0 is.1)
written_keep HoldRow row is = subst (KeepsTo HoldRow) (sym is.2) (hold_keeps is.0 is.1)
written_keep ZoneHead row is = subst (KeepsTo ZoneHead) (sym is.3) (head_keeps is.0 is.1 is.2)
written_keep ZoneRow row is = subst (KeepsTo ZoneRow) (sym is.2) (zone_sysmod_keeps is.0 is.1)
written_keep ReceivedList row is = subst (KeepsTo ReceivedList) (sym is.5) (received_keeps is.0 is.1 is.2 is.3 is.4)

-- all rows of the things that are fit
all_keep : {X : Type 0} (row_of : X → Row) (Fits : X → Type 0) (P : Row → Type 0) → ((x : X) → Fits x → P (row_of x)) → (rows : List Row) → AreRowsOf row_of Fits rows → AllByRecursion P rows
all_keep row_of Fits P each [] are = tt
all_keep row_of Fits P each (row ∷ rows) are = (subst P (sym are.0.2) (each are.0.0 are.0.1), all_keep row_of Fits P each rows are.1)

pub ours_keep : (stored : Stored) → IsWhole stored → KeepTo SysmodSup stored × KeepTo SysmodCond stored × KeepTo HoldRow stored × KeepTo ZoneRow stored
ours_keep stored whole = (
  all_keep member_row IsMember (KeepsTo SysmodSup) member_keeps stored.sups whole.sups,
  all_keep condition_row IsCondition (KeepsTo SysmodCond) condition_keeps stored.conds whole.conds,
  all_keep hold_row IsHold (KeepsTo HoldRow) hold_keeps stored.holds whole.holds,
  all_keep row_of_zone_sysmod IsZoneSysmod (KeepsTo ZoneRow) zone_sysmod_keeps stored.rows whole.rows,
)
