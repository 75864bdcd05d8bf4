-- A row that keeps to its table, and has all columns, is the row of something that the bureau writes.
use Rattle.std.proofs.Common.{◌≡◌, ◌+◌, ℕ, zero, suc, add-one, true, List, [], ◌∷◌, length, refl, sym, ◌∙◌, ap, ap₂, subst}
use Rattle.std.specs.Prelude.{is_some, Option, Some, None, option_map, option_and_then}
use Rattle.mcs_reader.specs.Id.{IsId}
use Rattle.holddata.specs.declared.hold.Hold.{Hold}
use Rattle.std.specs.List.{range_with_len}
use Rattle.std.specs.List.Sorted.{IsStrictlySortedBy}
use Rattle.catalogue.specs.Conditional.{CondsAscend}
use Rattle.catalogue.specs.Ids.{Ascend}
use Rattle.catalogue.specs.declared.conditional.CondNeed.{CondNeed}
use Rattle.catalogue.specs.declared.sysmod.Sysmod.{Sysmod}
use Rattle.bureau_store.specs.Callers.{is_token}
use Rattle.bureau_store.specs.declared.caller.CallerRow.{CallerRow}
use Rattle.sqlite_value.specs.Order.{Row, column}
use Rattle.sqlite_value.specs.declared.value.Value.{Value}
use Rattle.sqlite_value.specs.declared.value.Value.TheVariants.{Null, Int, Real, Text, Blob}
use Rattle.sql_tables.specs.Fit.{IsHold, IsRecord}
use Rattle.sql_tables.specs.Rows.{caller_row, hold_found, hold_row, hold_with, key_found, sysmod_row}
use Rattle.sql_tables.specs.Stored.{shown}
use Rattle.sql_tables.specs.Values.{categories_in, date_in, hold_kind_in, id_in, id_value, optional_id_in, state_in, sysmod_kind_in, text_in}
use Rattle.sql_tables.specs.Whole.{Head, IsCondition, IsHead, IsMember, IsZoneSysmod, Listed, ZoneSysmod, condition_row, member_row, row_of_head, row_of_zone_sysmod}
use Rattle.sql_reads.specs.Columns.{indices_of}
use Rattle.sql_checks.specs.Kept.{KeepsTo, table_of}
use Rattle.sql_checks.specs.Known.{IsIdColumn}
use Rattle.sql_checks.specs.declared.table.StoreTable.{StoreTable}
use Rattle.sql_checks.specs.declared.table.StoreTable.TheVariants as table
use Rattle.sql_checks.proofs.SaidFacts.{categories_said, date_said, hold_kind_said, id_said, ids_said, optional_said, patterns_said, state_said, sysmod_kind_said}

some_of : {A : Type 0} (o : Option A) → is_some o ≡ true → (a : A) × (o ≡ Some a)
some_of (Some a) h = (a, refl)
some_of None h = cc

no_conds : CondsAscend []
unfolding IsStrictlySortedBy
no_conds = tt

no_ids : Ascend []
unfolding IsStrictlySortedBy
no_ids = tt

cons : {v w : Value} {row other : Row} → v ≡ w → row ≡ other → v ∷ row ≡ w ∷ other
cons e f = ap₂ (λ v row. v ∷ row) e f

-- what was said of a part and then of the rest
bound : {A B : Type 0} (o : Option A) (f : A → Option B) (b : B) → option_and_then f o ≡ Some b → (a : A) × (o ≡ Some a) × (f a ≡ Some b)
bound (Some a) f b h = (a, refl, h)
bound None f b h = cc

mapped : {A B : Type 0} (o : Option A) (f : A → B) (b : B) → option_map f o ≡ Some b → (a : A) × (o ≡ Some a)
mapped (Some a) f b h = (a, refl)
mapped None f b h = cc

-- ---- a row is the list of its columns

further : (value : Value) (row : Row) (first many : ℕ) → shown (range_with_len (first + 1) many) (value ∷ row) ≡ shown (range_with_len first many) row
further value row first zero = refl
further value row first (suc many) = cons (ap (λ at. column (value ∷ row) at) (add-one first)) (further value row (first + 1) many)

each_column : (row : Row) → row ≡ shown (range_with_len 0 (length row)) row
each_column [] = refl
each_column (value ∷ row) = cons refl (each_column row ∙ sym (further value row 0 (length row)))

-- it has each column of its table
abbrev pub IsFull : StoreTable → Row → Type 0
IsFull which row = length row ≡ length (table_of which).columns

all_columns : (which : StoreTable) (row : Row) → IsFull which row → row ≡ shown (indices_of (table_of which)) row
all_columns which row full = subst (λ many. row ≡ shown (range_with_len 0 many) row) full (each_column row)

-- ---- what a row is of

-- the id that stands in a column
id_at : (row : Row) (index : ℕ) → IsIdColumn row index → (id : List ℕ) × IsId id × (column row index ≡ id_value id)
id_at row index is =
    let some = some_of (id_in (column row index)) is in
    let said = id_said (column row index) some.0 some.1 in (some.0, said.0, said.1)

text_at : (value : Value) → is_token (text_in value) ≡ true → value ≡ Text (text_in value)
text_at (Text t) is = refl
text_at (Blob b) is = cc
text_at (Int n) is = cc
text_at (Real x) is = cc
text_at Null is = cc

pub caller_of : (row : Row) → KeepsTo table.Caller row → IsFull table.Caller row → (caller : CallerRow) × IsId caller.name × (row ≡ caller_row caller)
caller_of row is full =
    let name = id_at row 0 is.0 in
    (record { name = name.0; token = text_in (column row 1) }, name.1, all_columns table.Caller row full ∙ cons name.2 (cons (text_at (column row 1) is.1) refl))

pub member_of : (row : Row) → KeepsTo table.SysmodSup row → IsFull table.SysmodSup row → (member : Listed (List ℕ)) × IsMember member × (row ≡ member_row member)
member_of row is full =
    let id = id_at row 0 is.0 in
    let one = id_at row 1 is.1 in
    (record { id = id.0; one = one.0 }, (id.1, one.1), all_columns table.SysmodSup row full ∙ cons id.2 (cons one.2 refl))

pub condition_of : (row : Row) → KeepsTo table.SysmodCond row → IsFull table.SysmodCond row
    → (condition : Listed CondNeed) × IsCondition condition × (row ≡ condition_row condition)
condition_of row is full =
    let id = id_at row 0 is.0 in
    let fmid = id_at row 1 is.1 in
    let need = id_at row 2 is.2 in
    (record { id = id.0; one = record { fmid = fmid.0; need = need.0 } }, (id.1, (fmid.1, need.1)), all_columns table.SysmodCond row full ∙ cons id.2 (cons fmid.2 (cons need.2 refl)))

pub record_of : (row : Row) → KeepsTo table.Sysmod row → IsFull table.Sysmod row → (sysmod : Sysmod) × IsRecord sysmod × (row ≡ sysmod_row sysmod)
record_of row is full =
    let id = id_at row 0 is.0 in
    let kind = some_of (sysmod_kind_in (column row 1)) is.1 in
    let kind_is = sysmod_kind_said (column row 1) kind.0 kind.1 in
    let fmids = ids_said (column row 2) is.2.0 is.2.1 in
    let pre = ids_said (column row 3) is.3.0 is.3.1 in
    let req = ids_said (column row 4) is.4.0 is.4.1 in
    let sysmod : Sysmod = record { id = id.0; kind = kind.0; fmids = is.2.0; pre = is.3.0; req = is.4.0; conds = []; sup = [] } in (
      sysmod,
      record { id = id.1; fmids = fmids.0; pre = pre.0; req = req.0; conds = tt; conds_ascend = no_conds; sup = tt; ascend = no_ids },
      all_columns table.Sysmod row full ∙ cons id.2 (cons kind_is (cons fmids.1 (cons pre.1 (cons req.1 refl)))),
    )

pub head_of : (row : Row) → KeepsTo table.ZoneHead row → IsFull table.ZoneHead row → (head : Head) × IsHead head × (row ≡ row_of_head head)
head_of row is full =
    let client = id_at row 0 is.0 in
    let zone = id_at row 1 is.1 in
    let patterns = patterns_said (column row 2) is.2.0 is.2.1 in
    (record { client = client.0; zone = zone.0; patterns = is.2.0 }, (client.1, zone.1, patterns.0), all_columns table.ZoneHead row full ∙ cons client.2 (cons zone.2 (cons patterns.1 refl)))

pub zone_sysmod_of : (row : Row) → KeepsTo table.ZoneRow row → IsFull table.ZoneRow row → (sysmod : ZoneSysmod) × IsZoneSysmod sysmod × (row ≡ row_of_zone_sysmod sysmod)
zone_sysmod_of row is full =
    let client = id_at row 0 is.0 in
    let zone = id_at row 1 is.1 in
    let sysmod = id_at row 2 is.2 in
    let state = some_of (state_in (column row 3)) is.3 in
    let state_is = state_said (column row 3) state.0 state.1 in
    (record { client = client.0; zone = zone.0; row = record { sysmod = sysmod.0; state = state.0 } }, (client.1, zone.1, record { sysmod = sysmod.1 }), all_columns table.ZoneRow row full ∙ cons client.2 (cons zone.2 (cons sysmod.2 (cons state_is refl))))

pub hold_of : (row : Row) → KeepsTo table.HoldRow row → IsFull table.HoldRow row → (hold : Hold) × IsHold hold × (row ≡ hold_row hold)
hold_of row is full =
    let found = some_of (hold_found row) is in
    let key = bound (key_found row) (λ key. hold_with key row) found.0 found.1 in
    let s = bound (id_in (column row 0)) _ key.0 key.1 in
    let k = bound (hold_kind_in (column row 1)) _ key.0 s.2 in
    let r = mapped (id_in (column row 2)) _ key.0 k.2 in
    let fm = bound (optional_id_in (column row 3)) _ found.0 key.2 in
    let cl = bound (optional_id_in (column row 4)) _ found.0 fm.2 in
    let da = bound (date_in (column row 5)) _ found.0 cl.2 in
    let re = bound (optional_id_in (column row 6)) _ found.0 da.2 in
    let cs = mapped (categories_in (column row 7)) _ found.0 re.2 in
    let sysmod = id_said (column row 0) s.0 s.1 in
    let kind = hold_kind_said (column row 1) k.0 k.1 in
    let reason = id_said (column row 2) r.0 r.1 in
    let fmid = optional_said (column row 3) fm.0 fm.1 in
    let class = optional_said (column row 4) cl.0 cl.1 in
    let dated = date_said (column row 5) da.0 da.1 in
    let resolver = optional_said (column row 6) re.0 re.1 in
    let categories = categories_said (column row 7) cs.0 cs.1 in
    let hold : Hold = record { key = record { sysmod = s.0; kind = k.0; reason = r.0 }; fmid = fm.0; class = cl.0; resolver = re.0; dated = da.0; categories = cs.0 } in (
      hold,
      record { sysmod = sysmod.0; reason = reason.0; fmid = fmid.0; class = class.0; resolver = resolver.0; dated = dated.0; categories = categories.0 },
      all_columns table.HoldRow row full ∙ cons sysmod.1 (cons kind (cons reason.1 (cons fmid.1 (cons class.1 (cons dated.1 (cons resolver.1 (cons categories.1 refl))))))),
    )
