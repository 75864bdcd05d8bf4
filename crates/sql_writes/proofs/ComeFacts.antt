-- What a statement that inserts makes of the rows of its table.
use Rattle.std.proofs.Common.{◌≡◌, ℕ, pos, List, [], ◌∷◌, Option, Some, None, Result, refl, ◌∙◌, ap, subst, arith}
use Rattle.holddata.specs.HoldKey.{kind_order}
use Rattle.holddata.specs.declared.hold.Hold.{Hold}
use Rattle.bureau_store.specs.Tables.{LastChange}
use Rattle.bureau_store.specs.declared.caller.CallerRow.{CallerRow}
use Rattle.sqlite.specs.Cast.{cast}
use Rattle.sqlite.specs.Edit.{next_rowid}
use Rattle.sqlite.specs.Kind.TheVariants as kind
use Rattle.sqlite.specs.State.{HasCleanDisk, State}
use Rattle.sqlite.specs.Values.{bound, bound_value}
use Rattle.sqlite.specs.declared.types.Value.TheVariants.{Int, Blob, Text}
use Rattle.sqlite_value.specs.Value.{owned}
use Rattle.sqlite_value.specs.declared.value.ValueRef.{ValueRef}
use Rattle.sql_texts.specs.Meaning.{Means}
use Rattle.sql_texts.specs.Schema as schema
use Rattle.sql_texts.specs.Schema.{bureau}
use Rattle.sql_texts.specs.Writes.{insert_given}
use Rattle.sql_tables.specs.Changes.{coming}
use Rattle.sql_tables.specs.Rows.{caller_row, change_row, hold_row}
use Rattle.sql_tables.specs.Stored.{caller_table, change_table, hold_table}
use Rattle.sql_tables.specs.Values.{date_value, hold_kind_value, id_value, optional_id_value, texts_value}
use Rattle.sql_tables.specs.Ours.{held_by}
use Rattle.sql_tables.specs.Writing.{Changes}
use Rattle.sql_rows.specs.Running.{Ran}
use Rattle.sql_rows.proofs.ChangeFacts.{changed_by}
use Rattle.sql_rows.proofs.StatementFacts.{cast_int, cast_null, inserts}
use Rattle.sql_rows.proofs.StoredFacts.{come, held_set, known_after}

-- ---- a value is of its column's type already

cast_optional : (id : Option (List ℕ)) → cast kind.Text (optional_id_value id) ≡ optional_id_value id
cast_optional None = refl
cast_optional (Some id) = refl

cast_date : (date : Option ℕ) → cast kind.Integer (date_value date) ≡ date_value date
cast_date None = cast_int _
cast_date (Some number) = cast_int (pos number)

bound_optional : (id : Option (List ℕ)) → bound_value (optional_id_value id) ≡ optional_id_value id
bound_optional None = refl
bound_optional (Some id) = refl

bound_date : (date : Option ℕ) → bound_value (date_value date) ≡ date_value date
bound_date None = refl
bound_date (Some number) = refl

-- ---- one row each

module _ {A F : Type 0} (old new : State) (text : List ℕ) (result : Result A F) where
  pub changes_come : (name : List ℕ) (last : LastChange) (a b c : ValueRef) → owned a ≡ id_value name → owned b ≡ Int (pos last.number) → owned c ≡ Blob last.reply
      → (HasCleanDisk old → Means bureau text (insert_given 2 3) 3) → Ran text (bound (a ∷ b ∷ c ∷ [])) old new result → Changes old new result (coming change_table (change_row name last ∷ []))
  changes_come name last a b c at_a at_b at_c means ran =
      let rows = old.now.trees 4 in
      let values = change_row name last in
      changed_by old new text values result (coming change_table (change_row name last ∷ [])) (subst (λ row. Ran text row old new result) (λ i. bound_value (at_a i) ∷ bound_value (at_b i) ∷ bound_value (at_c i) ∷ []) ran) (λ clean count known executes.
      let set = inserts text 2 schema.last_change 3 values values old new count (means clean) refl refl refl (λ i. cast_null i ∷ id_value name ∷ cast_int (pos last.number) i ∷ Blob last.reply ∷ []) known.schema known.numbered.1.1.0 executes in (
        known_after 4 _ old.now new.now known.numbered set,
        held_set 4 _ old.now new.now set ∙ ap (λ all. record (held_by old.now) { changes = all }) (come rows (Int (next_rowid rows) ∷ values)),
        set.others.0 (λ e. omega (arith, e)),
      ))

  pub callers_come : (caller : CallerRow) (a b : ValueRef) → owned a ≡ id_value caller.name → owned b ≡ Text caller.token
      → (HasCleanDisk old → Means bureau text (insert_given 1 2) 2) → Ran text (bound (a ∷ b ∷ [])) old new result → Changes old new result (coming caller_table (caller_row caller ∷ []))
  callers_come caller a b at_a at_b means ran =
      let rows = old.now.trees 1 in
      let values = caller_row caller in
      changed_by old new text values result (coming caller_table (caller_row caller ∷ [])) (subst (λ row. Ran text row old new result) (λ i. bound_value (at_a i) ∷ bound_value (at_b i) ∷ []) ran) (λ clean count known executes.
      let set = inserts text 1 schema.caller 2 values values old new count (means clean) refl refl refl (λ i. cast_null i ∷ caller_row caller) known.schema known.numbered.1.0 executes in (
        known_after 1 _ old.now new.now known.numbered set,
        held_set 1 _ old.now new.now set ∙ ap (λ all. record (held_by old.now) { callers = all }) (come rows (Int (next_rowid rows) ∷ values)),
        set.others.0 (λ e. omega (arith, e)),
      ))

  pub holds_come : (hold : Hold) (a b c d e f h k : ValueRef) → owned a ≡ id_value hold.key.sysmod → owned b ≡ hold_kind_value hold.key.kind → owned c ≡ id_value hold.key.reason → owned d ≡ optional_id_value hold.fmid → owned e ≡ optional_id_value hold.class → owned f ≡ date_value hold.dated → owned h ≡ optional_id_value hold.resolver → owned k ≡ texts_value hold.categories
      → (HasCleanDisk old → Means bureau text (insert_given 5 8) 8) → Ran text (bound (a ∷ b ∷ c ∷ d ∷ e ∷ f ∷ h ∷ k ∷ [])) old new result → Changes old new result (coming hold_table (hold_row hold ∷ []))
  holds_come hold a b c d e f h k at_a at_b at_c at_d at_e at_f at_h at_k means ran =
      let rows = old.now.trees 11 in
      let values = hold_row hold in
      changed_by old new text values result (coming hold_table (hold_row hold ∷ [])) (subst (λ row. Ran text row old new result) (λ i. bound_value (at_a i) ∷ bound_value (at_b i) ∷ bound_value (at_c i) ∷ (ap bound_value at_d ∙ bound_optional hold.fmid) i ∷ (ap bound_value at_e ∙ bound_optional hold.class) i ∷ (ap bound_value at_f ∙ bound_date hold.dated) i ∷ (ap bound_value at_h ∙ bound_optional hold.resolver) i ∷ bound_value (at_k i) ∷ []) ran) (λ clean count known executes.
      let set = inserts text 5 schema.hold_row 8 values values old new count (means clean) refl refl refl (λ i. cast_null i ∷ id_value hold.key.sysmod ∷ cast_int (pos (kind_order hold.key.kind)) i ∷ id_value hold.key.reason ∷ cast_optional hold.fmid i ∷ cast_optional hold.class i ∷ cast_date hold.dated i ∷ cast_optional hold.resolver i ∷ texts_value hold.categories ∷ []) known.schema known.numbered.1.1.1.1.1.0 executes in (
        known_after 11 _ old.now new.now known.numbered set,
        held_set 11 _ old.now new.now set ∙ ap (λ all. record (held_by old.now) { holds = all }) (come rows (Int (next_rowid rows) ∷ values)),
        set.others.0 (λ e. omega (arith, e)),
      ))
