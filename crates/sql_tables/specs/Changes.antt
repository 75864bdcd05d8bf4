-- The rows after a change: those that it names go, and others come after those that stay.
use Rattle.std.specs.Prelude.{ℕ, ◌&&◌, ◌++◌, Bool, false, not, List, [], ◌∷◌, map, filter, fold, Option, Some, None, option_map, unwrap_or, if◌then◌else◌}
use Rattle.std.specs.List.{list_any}
use Rattle.holddata.specs.HoldKey.{is_same_kind}
use Rattle.holddata.specs.declared.hold.HoldChange.{HoldChange}
use Rattle.holddata.specs.declared.hold.HoldChange.TheVariants.{Put, Release}
use Rattle.holddata.specs.declared.key.HoldKey.{HoldKey}
use Rattle.holddata.specs.declared.key.Kind.{Kind}
use Rattle.catalogue.specs.declared.change.Change.{Change}
use Rattle.catalogue.specs.declared.change.Change.TheVariants.{Whole, OfHold}
use Rattle.bureau_store.specs.Effect.{Effect, publication, zone_put, zone_dropped, received_put, patterns_put}
use Rattle.bureau_store.specs.Tables.{LastChange}
use Rattle.bureau_store.specs.declared.caller.Caller.{Caller}
use Rattle.bureau_store.specs.declared.caller.Caller.TheVariants.{Publisher, Client}
use Rattle.bureau_store.specs.declared.caller.CallerRow.{CallerRow}
use Rattle.sqlite_value.specs.Order.{Row, column}
use Rattle.sqlite_value.specs.declared.value.Value.{Value}
use Rattle.sql_tables.specs.Rows.{caller_row, change_row, cond_row, head_row, hold_row, received_row, sup_row, sysmod_row, zone_row}
use Rattle.sql_tables.specs.Stored.{OneTable, Stored, change_table, cond_table, head_table, is_named, is_of, is_of_both, name_of, received_table, row_table, sup_table, sysmod_table}
use Rattle.sql_tables.specs.Values.{hold_kind_in}

-- ---- what becomes of the rows of one table

-- the rows that pass a test go, and these come
abbrev pub replaced : (Row → Bool) → List Row → List Row → List Row
replaced test news rows = filter (λ row. not (test row)) rows ++ news

-- these come after those that are there
abbrev pub coming : OneTable → List Row → Stored → Stored
coming table news stored = table.with_rows (table.rows stored ++ news) stored

-- the rows that pass a test go
abbrev pub going : OneTable → (Row → Bool) → Stored → Stored
going table test stored = table.with_rows (replaced test [] (table.rows stored)) stored

-- the rows that pass a test go, and these come
abbrev pub instead : OneTable → (Row → Bool) → List Row → Stored → Stored
instead table test news stored = table.with_rows (replaced test news (table.rows stored)) stored

-- ---- a client's changes

-- the caller's last change is this one
abbrev pub with_last : Option (List ℕ) → LastChange → List Row → List Row
with_last None last rows = rows
with_last (Some name) last rows = replaced (is_of name) (change_row name last ∷ []) rows

-- the heads, with one for this zone, which asks for no patterns if it wasn't there
abbrev pub with_head : List ℕ → List ℕ → List Row → List Row
with_head client zone heads =
    if list_any (is_of_both client zone) heads then heads else heads ++ head_row client zone [] ∷ []

-- the rows after each effect of a client's change
abbrev pub client_changed : List ℕ → Effect → Stored → Stored
client_changed client (publication changes) stored = stored
client_changed client (zone_put zone news) stored =
    instead row_table (is_of_both client zone) (map (zone_row client zone) news)
    (record stored { heads = with_head client zone stored.heads })
client_changed client (zone_dropped zone) stored =
    going row_table (is_of_both client zone) (going head_table (is_of_both client zone) stored)
client_changed client (received_put ids) stored =
    instead received_table (is_of client) (received_row client ids ∷ []) stored
client_changed client (patterns_put zone patterns) stored =
    instead head_table (is_of_both client zone) (head_row client zone patterns ∷ []) stored

-- ---- a publication

abbrev pub is_kind : Kind → Value → Bool
is_kind kind value = unwrap_or (option_map (λ found. is_same_kind found kind) (hold_kind_in value)) false

-- whether a row's first columns are this key
abbrev pub is_under : HoldKey → Row → Bool
is_under key row =
    is_of key.sysmod row && (is_kind key.kind (column row 1) && is_named key.reason (column row 2))

abbrev pub holds_changed : HoldChange → List Row → List Row
holds_changed (Put hold) holds = replaced (is_under hold.key) (hold_row hold ∷ []) holds
holds_changed (Release key) holds = replaced (is_under key) [] holds

abbrev pub published : Stored → Change → Stored
published stored (Whole sysmod) =
    instead cond_table (is_of sysmod.id) (map (cond_row sysmod.id) sysmod.conds)
    (instead sup_table (is_of sysmod.id) (map (sup_row sysmod.id) sysmod.sup)
    (instead sysmod_table (is_of sysmod.id) (sysmod_row sysmod ∷ []) stored))
published stored (OfHold change) = record stored { holds = holds_changed change stored.holds }

-- ---- all of it

-- the rows after a change of the publisher or of a client, before its number is kept
abbrev pub changed : Caller → Effect → Stored → Stored
changed Publisher (publication changes) stored = fold published stored changes
changed Publisher (zone_put zone rows) stored = stored
changed Publisher (zone_dropped zone) stored = stored
changed Publisher (received_put ids) stored = stored
changed Publisher (patterns_put zone patterns) stored = stored
changed (Client client) effect stored = client_changed client effect stored

abbrev pub numbered : Caller → LastChange → Stored → Stored
numbered caller last stored = record stored { changes = with_last (name_of caller) last stored.changes }

-- the rows after a caller's change
abbrev pub stored_after : Caller → Effect → LastChange → Stored → Stored
stored_after caller effect last stored = numbered caller last (changed caller effect stored)

-- ---- other callers

-- a caller of this name leaves nothing: no last change, no zone, nothing received
abbrev pub without_caller : Stored → List ℕ → Stored
without_caller stored name =
    going received_table (is_of name) (going row_table (is_of name)
    (going head_table (is_of name) (going change_table (is_of name) stored)))

-- callers of these names leave nothing, and these are the callers
abbrev pub with_callers : List (List ℕ) → List CallerRow → Stored → Stored
with_callers names callers stored = record (fold without_caller stored names) { callers = map caller_row callers }
