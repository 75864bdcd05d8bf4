-- What a statement that deletes makes of the rows of its table.
use Rattle.std.proofs.Common.{◌≡◌, ℕ, List, [], ◌∷◌, Result, refl, ◌∙◌, ap, subst, arith}
use Rattle.std.specs.Prelude.{drop, filter, not}
use Rattle.std.proofs.lemmas.Bool.{and_parts}
use Rattle.holddata.specs.declared.key.HoldKey.{HoldKey}
use Rattle.mcs_reader.specs.Id.{IsId}
use Rattle.sqlite.specs.Order.{Row}
use Rattle.sqlite.specs.State.{State}
use Rattle.sqlite.specs.Values.{bound, bound_value}
use Rattle.sqlite_value.specs.Value.{owned}
use Rattle.sqlite_value.specs.declared.value.ValueRef.{ValueRef}
use Rattle.sqlite_schema.specs.Rules.{Keeps}
use Rattle.sqlite_schema.specs.declared.schema.Constraint.TheVariants.{Datatype}
use Rattle.sqlite_trees.proofs.ListLemmas.{all_weaker}
use Rattle.sql_texts.specs.Found.{passes}
use Rattle.sql_texts.specs.Meaning.{Means}
use Rattle.sql_texts.specs.Reads.{is_given}
use Rattle.sql_texts.specs.Schema as schema
use Rattle.sql_texts.specs.Schema.{bureau, tables}
use Rattle.sql_texts.specs.Writes.{delete_of}
use Rattle.sql_tables.specs.Changes.{going, is_under}
use Rattle.sql_tables.specs.InTrees.{columns_of}
use Rattle.sql_tables.specs.Stored.{caller_table, hold_table}
use Rattle.sql_tables.specs.Values.{hold_kind_value, id_value}
use Rattle.sql_tables.specs.Ours.{held_by}
use Rattle.sql_tables.specs.Writing.{Changes}
use Rattle.sql_rows.specs.Running.{Ran}
use Rattle.sql_rows.proofs.ChangeFacts.{changed_by}
use Rattle.sql_rows.proofs.KindFacts.{key_given}
use Rattle.sql_rows.proofs.StatementFacts.{deletes}
use Rattle.sql_rows.proofs.StoredFacts.{gone_known, held_set, known_after}

module _ {A F : Type 0} (old new : State) (text : List ℕ) (result : Result A F) where
  -- all callers
  pub callers_go : Means bureau text (delete_of 1 1 []) 0 → Ran text [] old new result → Changes old new result (caller_table.with_rows [])
  callers_go means ran =
      changed_by old new text [] result (caller_table.with_rows []) ran (λ clean count known executes.
      let set = deletes text 1 schema.caller [] 0 [] old new count means refl known.schema known.numbered.1.0 executes in (
        known_after 1 _ old.now new.now known.numbered set,
        held_set 1 _ old.now new.now set ∙ ap (λ left. record (held_by old.now) { callers = columns_of left }) (none_left (old.now.trees 1)),
        set.others.0 (λ e. omega (arith, e)),
      ))
    where
      none_left : (rows : List Row) → filter (λ row. not (passes [] [] row)) rows ≡ []
      none_left [] = refl
      none_left (row ∷ rows) = none_left rows

  -- The kinds of holds are whole numbers by the rules of their table.
  pub holds_go : (key : HoldKey) (a b c : ValueRef) → IsId key.sysmod → IsId key.reason
      → owned a ≡ id_value key.sysmod → owned b ≡ hold_kind_value key.kind → owned c ≡ id_value key.reason
      → Means bureau text (delete_of 5 11 (is_given 1 0 ∷ is_given 2 1 ∷ is_given 3 2 ∷ [])) 3 → Ran text (bound (a ∷ b ∷ c ∷ [])) old new result
      → Changes old new result (going hold_table (is_under key))
  holds_go key a b c is_sysmod is_reason at_sysmod at_kind at_reason means ran =
      let rows = old.now.trees 11 in
      let params = id_value key.sysmod ∷ hold_kind_value key.kind ∷ id_value key.reason ∷ [] in
      let tests = is_given 1 0 ∷ is_given 2 1 ∷ is_given 3 2 ∷ [] in
      changed_by old new text params result (going hold_table (is_under key))
      (subst (λ row. Ran text row old new result) (λ i. bound_value (at_sysmod i) ∷ bound_value (at_kind i) ∷ bound_value (at_reason i) ∷ []) ran) (λ clean count known executes.
      let set = deletes text 5 schema.hold_row tests 3 params old new count means refl known.schema known.numbered.1.1.1.1.1.0 executes in
      let sound = subst (λ s. Keeps Datatype s old.now.trees) known.schema (known.sound.obeys.rules Datatype) in
      let typed = all_weaker _ (λ row. passes params tests row ≡ is_under key (drop 1 row)) (λ row ok. key_given key is_sysmod is_reason row (and_parts _ _ ok).0) rows sound.1.1.1.1.1.0 in (
        known_after 11 _ old.now new.now known.numbered set,
        held_set 11 _ old.now new.now set ∙ ap (λ left. record (held_by old.now) { holds = left }) (gone_known (is_under key) (passes params tests) rows typed),
        set.others.0 (λ e. omega (arith, e)),
      ))
