-- Rows that are written are read again, table by table, and what a row that is read says of its key.
use Rattle.std.proofs.Common.{◌≡◌, ℕ, true, false, List, [], ◌∷◌, refl, sym, ◌∙◌, ap}
use Rattle.std.specs.Prelude.{Option, Some, None, IsTrue, IfSome, option_map, unwrap_or}
use Rattle.mcs_reader.specs.Id.{IsId, id_of, is_id_text, text_of}
use Rattle.holddata.specs.Date.{is_date}
use Rattle.holddata.specs.declared.hold.Hold.{Hold}
use Rattle.holddata.specs.declared.key.HoldKey.{HoldKey}
use Rattle.catalogue.specs.declared.conditional.CondNeed.{CondNeed}
use Rattle.catalogue.specs.declared.sysmod.Sysmod.{Sysmod}
use Rattle.catalogue.specs.declared.sysmod.SysmodKind.{SysmodKind}
use Rattle.zone_lists.specs.declared.zones.ZoneRow.{ZoneRow}
use Rattle.bureau_store.specs.Tables.{LastChange}
use Rattle.bureau_store.specs.declared.caller.CallerRow.{CallerRow}
use Rattle.sqlite_value.specs.Order.{Row, column}
use Rattle.sql_tables.specs.Fit.{AreIds, IsCond, IsHold, IsRecord, IsZoneRow}
use Rattle.sql_tables.specs.Rows.{Beside, caller_found, caller_row, change_row, cond_found, cond_row, hold_found, hold_row, hold_with, key_found, received_row, sysmod_found, sysmod_row, with, zone_row}
use Rattle.sql_tables.specs.Stored.{change_said, received_said, shown, zone_row_said}
use Rattle.sql_tables.specs.Values.{categories_in, date_in, date_value, id_in, ids_in, sysmod_kind_in, optional_id_in, optional_id_value, optional_id_with}
use Rattle.sql_tables.proofs.ListValueFacts.{categories_again, ids_again}
use Rattle.sql_tables.proofs.ValueFacts.{date_again, hold_kind_again, id_again, state_again, sysmod_kind_again}

-- ---- what may be absent

optional_again : (o : Option (List ℕ)) → IfSome o IsId → optional_id_in (optional_id_value o) ≡ Some o
optional_again None h = refl
optional_again (Some id) h = by (text_of id) refl
  where
    by : (text : List ℕ) → text_of id ≡ text → optional_id_with (text_of id) ≡ Some (Some id)
    by [] at = let e : false ≡ true = sym (ap is_id_text at) ∙ h.0 in cc
    by (b ∷ text) at =
        ap optional_id_with at
        ∙ ap (λ t. option_map Some (id_of t)) (sym at)
        ∙ ap (option_map Some) (id_again id h)

dated_again : (o : Option ℕ) → IfSome o (λ number. IsTrue (is_date number)) → date_in (date_value o) ≡ Some o
dated_again None h = refl
dated_again (Some number) h = date_again number h

-- ---- caller, last_change and received_list

pub caller_again : (caller : CallerRow) → IsId caller.name → caller_found (caller_row caller) ≡ Some caller
caller_again caller is = ap (option_map (λ name. record { name = name; token = caller.token })) (id_again caller.name is)

pub change_again : (name : List ℕ) (last : LastChange) → change_said (change_row name last ∷ []) ≡ Some last
change_again name last = refl

pub received_again : (client : List ℕ) (ids : List (List ℕ)) → AreIds ids → received_said (received_row client ids ∷ []) ≡ ids
received_again client ids are = ap (λ found. unwrap_or found []) (ids_again ids are)

-- ---- zone_row

pub zone_row_again : (client zone : List ℕ) (row : ZoneRow) → IsZoneRow row → zone_row_said (zone_row client zone row) ≡ Some row
zone_row_again client zone row is = rw (id_again row.sysmod is.sysmod, state_again row.state) refl

-- ---- sysmod and sysmod_cond

-- a record that is written says all but what stands beside it
pub sysmod_again : (beside : Beside) (sysmod : Sysmod) → IsRecord sysmod → sysmod_found beside (sysmod_row sysmod) ≡ Some (record sysmod { conds = beside.conds; sup = beside.sup })
sysmod_again beside sysmod is =
    rw (id_again sysmod.id is.id, sysmod_kind_again sysmod.kind, ids_again sysmod.fmids is.fmids, ids_again sysmod.pre is.pre, ids_again sysmod.req is.req) refl

-- a record that is read has the id of its row
pub sysmod_own : (beside : Beside) (row : Row) (sysmod : Sysmod) → sysmod_found beside row ≡ Some sysmod → id_in (column row 0) ≡ Some sysmod.id
sysmod_own beside row sysmod h = by (id_in (column row 0)) (sysmod_kind_in (column row 1)) (ids_in (column row 2)) (ids_in (column row 3)) (ids_in (column row 4)) h
  where
    by : (id : Option (List ℕ)) (kind : Option SysmodKind) (fmids pre req : Option (List (List ℕ)))
        → with id (λ i. with kind (λ k. with fmids (λ f. with pre (λ p. option_map (λ r. record { id = i; kind = k; fmids = f; pre = p; req = r; conds = beside.conds; sup = beside.sup }) req)))) ≡ Some sysmod
        → id ≡ Some sysmod.id
    by None kind fmids pre req h = cc
    by (Some i) None fmids pre req h = cc
    by (Some i) (Some k) None pre req h = cc
    by (Some i) (Some k) (Some f) None req h = cc
    by (Some i) (Some k) (Some f) (Some p) None h = cc
    by (Some i) (Some k) (Some f) (Some p) (Some r) h = ap Some (some_id h)
      where
        some_id : ◌≡◌ {A = Option Sysmod} (Some (record { id = i; kind = k; fmids = f; pre = p; req = r; conds = beside.conds; sup = beside.sup })) (Some sysmod) → i ≡ sysmod.id
        some_id e = ap (λ (o : Option Sysmod). unwrap_or (option_map (λ (s : Sysmod). s.id) o) i) e

-- the lists of a record that is read are those of its row
pub sysmod_lists : (beside : Beside) (row : Row) (sysmod : Sysmod) → sysmod_found beside row ≡ Some sysmod
    → (ids_in (column row 2) ≡ Some sysmod.fmids) × (ids_in (column row 3) ≡ Some sysmod.pre) × (ids_in (column row 4) ≡ Some sysmod.req)
sysmod_lists beside row sysmod h = by (id_in (column row 0)) (sysmod_kind_in (column row 1)) (ids_in (column row 2)) (ids_in (column row 3)) (ids_in (column row 4)) h
  where
    by : (id : Option (List ℕ)) (kind : Option SysmodKind) (fmids pre req : Option (List (List ℕ)))
        → with id (λ i. with kind (λ k. with fmids (λ f. with pre (λ p. option_map (λ r. record { id = i; kind = k; fmids = f; pre = p; req = r; conds = beside.conds; sup = beside.sup }) req)))) ≡ Some sysmod
        → (fmids ≡ Some sysmod.fmids) × (pre ≡ Some sysmod.pre) × (req ≡ Some sysmod.req)
    by None kind fmids pre req h = cc
    by (Some i) None fmids pre req h = cc
    by (Some i) (Some k) None pre req h = cc
    by (Some i) (Some k) (Some f) None req h = cc
    by (Some i) (Some k) (Some f) (Some p) None h = cc
    by (Some i) (Some k) (Some f) (Some p) (Some r) h = (
      ap (option_map (λ (s : Sysmod). s.fmids)) h,
      ap (option_map (λ (s : Sysmod). s.pre)) h,
      ap (option_map (λ (s : Sysmod). s.req)) h,
    )

pub cond_again : (id : List ℕ) (cond : CondNeed) → IsCond cond → cond_found (shown (1 ∷ 2 ∷ []) (cond_row id cond)) ≡ Some cond
cond_again id cond is = rw (id_again cond.fmid is.0, id_again cond.need is.1) refl

-- ---- hold_row

pub hold_again : (hold : Hold) → IsHold hold → hold_found (hold_row hold) ≡ Some hold
hold_again hold is =
    rw (
      id_again hold.key.sysmod is.sysmod,
      hold_kind_again hold.key.kind,
      id_again hold.key.reason is.reason,
      optional_again hold.fmid is.fmid,
      optional_again hold.class is.class,
      dated_again hold.dated is.dated,
      optional_again hold.resolver is.resolver,
      categories_again hold.categories is.categories,
    ) refl

-- a hold that is read has the key of its row
with_own : (key : HoldKey) (row : Row) (hold : Hold) → hold_with key row ≡ Some hold → hold.key ≡ key
with_own key row hold h = by (optional_id_in (column row 3)) (optional_id_in (column row 4)) (date_in (column row 5)) (optional_id_in (column row 6)) (categories_in (column row 7)) h
  where
    by : (fmid class : Option (Option (List ℕ))) (dated : Option (Option ℕ)) (resolver : Option (Option (List ℕ))) (categories : Option (List (List ℕ)))
        → with fmid (λ f. with class (λ c. with dated (λ d. with resolver (λ r. option_map (λ cs. record { key = key; fmid = f; class = c; resolver = r; dated = d; categories = cs }) categories)))) ≡ Some hold
        → hold.key ≡ key
    by None class dated resolver categories h = cc
    by (Some f) None dated resolver categories h = cc
    by (Some f) (Some c) None resolver categories h = cc
    by (Some f) (Some c) (Some d) None categories h = cc
    by (Some f) (Some c) (Some d) (Some r) None h = cc
    by (Some f) (Some c) (Some d) (Some r) (Some cs) h = sym (ap (λ (o : Option Hold). unwrap_or (option_map (λ (x : Hold). x.key) o) key) h)

pub hold_own : (row : Row) (hold : Hold) → hold_found row ≡ Some hold → key_found row ≡ Some hold.key
hold_own row hold h = by (key_found row) refl h
  where
    by : (o : Option HoldKey) → key_found row ≡ o → with o (λ key. hold_with key row) ≡ Some hold → key_found row ≡ Some hold.key
    by None is h = cc
    by (Some key) is h = is ∙ ap Some (sym (with_own key row hold h))
