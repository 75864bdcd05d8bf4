-- The rows of the tables: the values of their columns, in the order of the table and without the rowid. Each row is read
-- back as what was written. A row that was never written is read as nothing.
use Rattle.std.specs.Prelude.{ℕ, pos, List, [], ◌∷◌, Option, option_map, option_and_then}
use Rattle.holddata.specs.declared.hold.Hold.{Hold}
use Rattle.holddata.specs.declared.key.HoldKey.{HoldKey}
use Rattle.catalogue.specs.declared.conditional.CondNeed.{CondNeed}
use Rattle.catalogue.specs.declared.sysmod.Sysmod.{Sysmod}
use Rattle.zone_lists.specs.declared.zones.ZoneRow.{ZoneRow}
use Rattle.bureau_store.specs.Tables.{LastChange}
use Rattle.bureau_store.specs.declared.caller.CallerRow.{CallerRow}
use Rattle.sqlite_value.specs.Order.{Row, column}
use Rattle.sqlite_value.specs.declared.value.Value.TheVariants.{Int, Text, Blob}
use Rattle.sql_tables.specs.Values.{bytes_in, categories_in, date_in, date_value, hold_kind_in, hold_kind_value, id_in, id_value, ids_in, ids_value, number_in, optional_id_in, optional_id_value, state_in, state_value, sysmod_kind_in, sysmod_kind_value, text_in, texts_value}

-- the next part of a row, if the parts so far are there
abbrev pub with : {A B : Type 0} → Option A → (A → Option B) → Option B
with found next = option_and_then next found

-- ---- caller: name, token

abbrev pub caller_row : CallerRow → Row
caller_row caller = id_value caller.name ∷ Text caller.token ∷ []

abbrev pub caller_found : Row → Option CallerRow
caller_found row =
    option_map (λ name. record { name = name; token = text_in (column row 1) }) (id_in (column row 0))

-- ---- last_change: caller, number, body

abbrev pub change_row : List ℕ → LastChange → Row
change_row name change = id_value name ∷ Int (pos change.number) ∷ Blob change.reply ∷ []

-- the number and the reply, from the two columns that a read shows
abbrev pub change_found : Row → Option LastChange
change_found shown = with (number_in (column shown 0)) (λ number.
    option_map (λ reply. record { number = number; reply = reply }) (bytes_in (column shown 1)))

-- ---- sysmod: id, kind, fmids, pre, req; sysmod_sup: id, member; and sysmod_cond: id, fmid, member

abbrev pub sysmod_row : Sysmod → Row
sysmod_row sysmod =
    id_value sysmod.id ∷ sysmod_kind_value sysmod.kind ∷ ids_value sysmod.fmids ∷ ids_value sysmod.pre
    ∷ ids_value sysmod.req ∷ []

abbrev pub sup_row : List ℕ → List ℕ → Row
sup_row id member = id_value id ∷ id_value member ∷ []

abbrev pub cond_row : List ℕ → CondNeed → Row
cond_row id cond = id_value id ∷ id_value cond.fmid ∷ id_value cond.need ∷ []

-- a function and the SYSMOD that is required if it is installed, from the two columns that a read shows
abbrev pub cond_found : Row → Option CondNeed
cond_found shown = with (id_in (column shown 0)) (λ fmid.
    option_map (λ need. record { fmid = fmid; need = need }) (id_in (column shown 1)))

-- the parts of a record that rows of other tables have
pub record Beside : Type 0 where
  -- its requisites under a condition
  pub conds : List CondNeed
  -- the ids that it supersedes
  pub sup : List (List ℕ)

-- the record of a row, with the parts that other tables have
abbrev pub sysmod_found : Beside → Row → Option Sysmod
sysmod_found beside row =
    with (id_in (column row 0)) (λ id.
    with (sysmod_kind_in (column row 1)) (λ kind.
    with (ids_in (column row 2)) (λ fmids.
    with (ids_in (column row 3)) (λ pre.
    option_map (λ req. record {
      id = id;
      kind = kind;
      fmids = fmids;
      pre = pre;
      req = req;
      conds = beside.conds;
      sup = beside.sup;
    }) (ids_in (column row 4))))))

-- ---- hold_row: sysmod, kind, reason, fmid, class, dated, resolver, categories

abbrev pub hold_row : Hold → Row
hold_row hold =
    id_value hold.key.sysmod ∷ hold_kind_value hold.key.kind ∷ id_value hold.key.reason
    ∷ optional_id_value hold.fmid ∷ optional_id_value hold.class ∷ date_value hold.dated
    ∷ optional_id_value hold.resolver ∷ texts_value hold.categories ∷ []

abbrev pub key_found : Row → Option HoldKey
key_found row =
    with (id_in (column row 0)) (λ sysmod.
    with (hold_kind_in (column row 1)) (λ kind.
    option_map (λ reason. record { sysmod = sysmod; kind = kind; reason = reason }) (id_in (column row 2))))

-- the rest of the hold with this key, as a row says it
abbrev pub hold_with : HoldKey → Row → Option Hold
hold_with key row =
    with (optional_id_in (column row 3)) (λ fmid.
    with (optional_id_in (column row 4)) (λ class.
    with (date_in (column row 5)) (λ dated.
    with (optional_id_in (column row 6)) (λ resolver.
    option_map (λ categories. record {
      key = key;
      fmid = fmid;
      class = class;
      resolver = resolver;
      dated = dated;
      categories = categories;
    }) (categories_in (column row 7))))))

abbrev pub hold_found : Row → Option Hold
hold_found row = with (key_found row) (λ key. hold_with key row)

-- ---- zone_head: client, zone, patterns

abbrev pub head_row : List ℕ → List ℕ → List (List ℕ) → Row
head_row client zone patterns = id_value client ∷ id_value zone ∷ texts_value patterns ∷ []

-- ---- zone_row: client, zone, sysmod, state

abbrev pub zone_row : List ℕ → List ℕ → ZoneRow → Row
zone_row client zone row = id_value client ∷ id_value zone ∷ id_value row.sysmod ∷ state_value row.state ∷ []

-- the SYSMOD and its state, from the two columns that a read shows
abbrev pub zone_row_found : Row → Option ZoneRow
zone_row_found shown = with (id_in (column shown 0)) (λ sysmod.
    option_map (λ state. record { sysmod = sysmod; state = state }) (state_in (column shown 1)))

-- ---- received_list: client, ids

abbrev pub received_row : List ℕ → List (List ℕ) → Row
received_row client ids = id_value client ∷ ids_value ids ∷ []
