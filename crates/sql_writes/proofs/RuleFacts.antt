-- No rule of the bureau's tables speaks against a statement that writes sound rows.
use Rattle.std.proofs.Common.{◌≡◌, ◌≢◌, ℕ, Bool, true, false, List, [], ◌∷◌, Option, Some, None, Err, length, refl, sym, ◌∙◌, ap, subst, inl, inr, arith, zero, suc, ℤ, pos}
use Rattle.std.specs.Prelude.{◌||◌, IsSome, ◌/◌, nat_lt, not, slice_get}
use Rattle.std.specs.List.{AllByRecursion, list_all}
use Rattle.std.specs.Float.{NotNan}
use lib.Ieee.{is_nan}
use Rattle.std.proofs.lemmas.List.Elements.{All-from_recursion}
use Rattle.std.proofs.lemmas.Bool.{and_parts, false≢true}
use Rattle.std.proofs.lemmas.List.{length-append}
use Rattle.sqlite.specs.Command.TheVariants.{Insert}
use Rattle.sqlite.specs.Does.{Concludes, Does, OnRows}
use Rattle.sqlite.specs.Effect.{value_rows}
use Rattle.sqlite.specs.Order.{Row}
use Rattle.sqlite.specs.Rows.{Counter, Counts, Edited, Inserts, Queried, Sourced, Task, Written, count_of, rowids_for, stamped}
use Rattle.sqlite.specs.Schema.{Schema}
use Rattle.sqlite.specs.State.{State, mode_of}
use Rattle.sqlite.specs.Source.TheVariants.{Values}
use Rattle.sqlite.specs.Table.{Table}
use Rattle.sqlite.specs.Term.{Term}
use Rattle.sqlite.specs.Tree.{Trees}
use Rattle.sqlite.specs.declared.error.Error.{Error}
use Rattle.sqlite_rules.specs.Action.{Leads, Writes, works}
use Rattle.sqlite_rules.specs.Calls.{ids_of}
use Rattle.sqlite_rules.specs.Edit.{Edit, IsOversized, IsRefused, are_fresh, edit_of, edited, numbered, taken_by}
use Rattle.sqlite_rules.specs.Lists.{Has}
use Rattle.sqlite_rules.specs.declared.error.Refusal.{Refusal}
use Rattle.sqlite_rules.specs.declared.error.Refusal.TheVariants as rule
use Rattle.sqlite_rules.specs.declared.error.Refusal.TheVariants.{BadReference, Mismatch, NoRowid, TooDeep}
use Rattle.sqlite_rules.specs.declared.error.Rowids.{Rowids}
use Rattle.sqlite_rules.specs.declared.error.Rowids.TheVariants.{Chosen, Given}
use Rattle.sqlite_rules.proofs.ListLemmas.{all_has}
use Rattle.sqlite_schema.specs.Rules.{Keeps, Refers, has_parent, is_among, passes, table_reals}
use Rattle.sqlite_schema.specs.declared.schema.Among.TheVariants.{All}
use Rattle.sqlite_schema.specs.declared.schema.Constraint.TheVariants.{Check, Datatype, ForeignKey, NotNull, PrimaryKey, Unique}
use Rattle.sqlite_schema.specs.declared.schema.Index.{Index}
use Rattle.sqlite_schema.specs.declared.schema.Keys.{Keys}
use Rattle.sqlite_schema.specs.declared.schema.Reference.{Reference}
use Rattle.sqlite_schema.specs.declared.schema.Keys.TheVariants.{Enforced}
use Rattle.sqlite_typing.specs.Types.{accepts_terms}
use Rattle.sqlite_trees.specs.Tree.{with_tree}
use Rattle.sqlite_trees.specs.View.{IsStorable, IsStorableRow}
use Rattle.sqlite.specs.Cast.{cast_row}
use Rattle.sqlite.specs.Ops.{binary}
use Rattle.sqlite_value.specs.Order.{number, value_cmp}
use Rattle.sqlite_value.specs.declared.value.Value.TheVariants.{Int, Null}
use Rattle.lemmas.proofs.TestFacts.{or_true}
use Rattle.sql_texts.specs.Reads.{from_table}
use Rattle.sql_texts.specs.Schema.{bureau, bureau_version, indexes}
use Rattle.sql_texts.specs.Writes.{delete_of}
use Rattle.sql_rows.specs.Fitting.{has_none}
use Rattle.sql_rows.proofs.AbsentFacts.{every}
use Rattle.sql_rows.proofs.FittingFacts.{no_value, none_listed, untyped, whole_number}
use Rattle.sql_writes.proofs.RefusalFacts.{both, gave, halts}
use Rattle.sql_rows.proofs.StatementFacts.{cast_int, cast_null, on_table}

-- ---- rows

-- a step that no rule refuses, and that no foreign key follows
edit_stops : (schema : Schema) (keys : Keys) (db : Trees) (edit : Edit) (why : Option Refusal) → works schema keys 0 edit.table.tree (taken_by db edit) edit.news ≡ []
    → ((r : Refusal) → IsRefused schema keys db edit r → ⊥) → ((row : Row) → Has edit.news row → IsOversized schema edit.table row → ⊥) → Writes schema keys db edit (Err why) → ⊥
edit_stops schema keys db edit why none sound small (inl refused) = sound refused.0 refused.1
edit_stops schema keys db edit why none sound small (inr (inl big)) = small big.0 big.1 big.2
edit_stops schema keys db edit why none sound small (inr (inr went)) = settled went.2.0 (rw none at went.2.1)
  where
    settled : (n : ℕ) → Leads schema keys n went.0 [] (Err why) → ⊥
    settled zero h = let e = h.1 in cc
    settled (suc n) h = absurd (omega (arith, ap length h.2, length-append h.0 (h.1 ∷ [])))

-- no table of the bureau has a foreign key
abbrev finds_parent : Trees → Row → Reference → Bool
finds_parent db row reference = not (is_among All reference) || has_parent bureau.tables db row reference

none_refer : (db : Trees) (all : List Table) → list_all (λ (table : Table). has_none table.references) all ≡ true
    → AllByRecursion (λ (table : Table). AllByRecursion (λ row. list_all (finds_parent db row) table.references ≡ true) (db table.tree)) all
none_refer db [] none = tt
none_refer db (table ∷ all) none =
    let parts = and_parts (has_none table.references) (list_all (λ (other : Table). has_none other.references) all) none in
    (every (λ row. list_all (finds_parent db row) table.references ≡ true) (λ row. ap (list_all (finds_parent db row)) (none_listed table.references parts.0)) (db table.tree), none_refer db all parts.1)

refers : (db : Trees) → Refers All bureau db
refers db = none_refer db bureau.tables refl

pub concluded : {P : Type 0} (task : Task) (old : State) (written : Written) (stop : Option Error) → task.schema ≡ bureau → Concludes task (mode_of old) None written (Err stop) → P
concluded task old written stop ours h =
    absurd (halts h (λ s tested. tested.0 (subst (λ schema. Refers All schema written.trees) (sym ours) (refers written.trees))) (λ on. halts on.2 (λ s shows. gave shows) (λ rows. gave rows.2)))

-- an edit that no rule refuses, of rows that can be stored
pub record IsSound (db : Trees) (edit : Edit) : Type 0 where
  pub free : works bureau Enforced 0 edit.table.tree (taken_by db edit) edit.news ≡ []
  pub ruled : (r : Refusal) → IsRefused bureau Enforced db edit r → ⊥
  pub small : (row : Row) → Has edit.news row → IsOversized bureau edit.table row → ⊥

pub unedited : {P : Type 0} (db : Trees) (edit : Edit) (stop : Option Error) → IsSound db edit → Edited bureau Enforced db edit (Err stop) → P
unedited db edit stop sound h = absurd (edit_stops bureau Enforced db edit h.0 sound.free sound.ruled sound.small h.1)

-- ---- INSERT

module _ (old : State) (text : List ℕ) (table_index : ℕ) (table : Table) (terms : List Term) (width : ℕ) (params : Row) (rows : List Row) (ours : old.now.schema ≡ bureau)
    (at : slice_get bureau.tables table_index ≡ Some table) (uncounted : table.is_counted ≡ false) (accepted : accepts_terms terms (stamped table params) ≡ true)
    (source : value_rows (stamped table params) width (length terms / width) terms ≡ rows) (sound : IsSound old.now.trees (edit_of old.now.trees table [] Chosen 0 rows)) where
  abbrev task : Task
  task = record { limit = old.step_limit; keys = Enforced; schema = bureau; table = table; params = params }

  unsourced : (stop : Option Error) → Sourced old.step_limit (record { schema = bureau; trees = old.now.trees }) (stamped table params) (Values terms width) (Err stop) → IsSome old.step_limit
  unsourced None none = absurd none
  unsourced (Some e) (inl mismatch) = absurd (both accepted mismatch.1)
  unsourced (Some e) (inr limited) = limited.1

  chosen : (top : ℤ) → rowids_for table top ≡ Chosen
  chosen top = rw uncounted

  uncounted_stop : {P : Type 0} (stop : Option Error) → Counter task old.now.trees (Err stop) → P
  uncounted_stop stop h = gave (rw uncounted at h)

  uncounts : {P : Type 0} (mid : Trees) (counter : Option Row) (top : ℤ) (stop : Option Error) → Counts task mid counter top (Err stop) → P
  uncounts mid counter top stop h = gave (rw uncounted at h)

  unwritten : (stop : Option Error) → Inserts task (Values terms width) old.now.trees (Err stop) → IsSome old.step_limit
  unwritten stop h = halts h (λ s from. unsourced s from) (λ given. halts given.2 (λ s counter. uncounted_stop s counter) (λ counted. halts counted.2
      (λ s edits. unedited old.now.trees (edit_of old.now.trees table [] Chosen 0 rows) s sound
      (subst (λ (r : Rowids). Edited bureau Enforced old.now.trees (edit_of old.now.trees table [] r 0 rows) (Err s)) (chosen (count_of counted.0))
      (subst (λ all. Edited bureau Enforced old.now.trees (edit_of old.now.trees table [] (rowids_for table (count_of counted.0)) 0 all) (Err s)) (given.1.1 ∙ source) edits)))
      (λ mid. halts mid.2 (λ s counts. uncounts mid.0 counted.0 _ s counts) (λ next. gave next.2))))

  pub insert_stops : (stop : Option Error) → Does old.step_limit (mode_of old) params old.now text None (Insert table_index (Values terms width)) (Err stop) → IsSome old.step_limit
  insert_stops stop h =
      let here = subst (λ s. Does old.step_limit (mode_of old) params (record old.now { schema = s }) text None (Insert table_index (Values terms width)) (Err stop)) ours h in
      let on = on_table old.step_limit (mode_of old) params (record old.now { schema = bureau }) table_index (λ task. OnRows task (mode_of old) None (Insert table_index (Values terms width)) old.now.trees) table (Err stop) at here in
      halts on (λ s writes. unwritten s writes) (λ written. concluded task old written.0 stop refl written.2)

-- ---- DELETE, of the row of the version

-- rows that go break no rule of the version's table, which has no key of its own
keeps_version : (db : Trees) (rows : List Row) → Keeps Unique bureau db → Keeps Unique bureau (with_tree db 0 rows)
keeps_version db rows keeps = (all_pass rows, keeps.1)
  where
    all_pass : (rows : List Row) → AllByRecursion (λ row. passes Unique bureau (with_tree db 0 rows) bureau_version row ≡ true) rows
    all_pass [] = tt
    all_pass (row ∷ rows) = (refl, all_pass rows)

gone_soundly : (db : Trees) (ids : List ℤ) → Keeps Unique bureau db → IsSound db (edit_of db bureau_version ids Given 0 [])
gone_soundly db ids keeps = record { free = refl; ruled = ruled; small = λ row none. absurd none }
  where
    edit : Edit
    edit = edit_of db bureau_version ids Given 0 []

    ruled : (r : Refusal) → IsRefused bureau Enforced db edit r → ⊥
    ruled (rule.Violates Datatype) fails = false≢true (sym fails)
    ruled (rule.Violates NotNull) fails = false≢true (sym fails)
    ruled (rule.Violates Check) fails = false≢true (sym fails)
    ruled (rule.Violates PrimaryKey) fails = false≢true (sym fails)
    ruled (rule.Violates Unique) fails = fails (keeps_version db (edited db edit) keeps)
    ruled (rule.Violates ForeignKey) fails = fails
    ruled Mismatch fails = false≢true (sym fails)
    ruled NoRowid fails = false≢true (sym fails)
    ruled BadReference fails = false≢true (sym fails ∙ or_true (not (nat_lt 0 (length ids))))
    ruled TooDeep fails = fails

pub delete_stops : (old : State) (text : List ℕ) → old.now.schema ≡ bureau → Keeps Unique bureau old.now.trees → (stop : Option Error)
    → Does old.step_limit (mode_of old) [] old.now text None (delete_of 0 0 []) (Err stop) → IsSome old.step_limit
delete_stops old text ours keeps stop h =
    let here = subst (λ s. Does old.step_limit (mode_of old) [] (record old.now { schema = s }) text None (delete_of 0 0 []) (Err stop)) ours h in
    let on = on_table old.step_limit (mode_of old) [] (record old.now { schema = bureau }) 0 (λ task. OnRows task (mode_of old) None (delete_of 0 0 []) old.now.trees) bureau_version (Err stop) refl here in
    halts on (λ s writes. halts writes (λ s′ asked. unasked s′ asked) (λ found. halts found.2 (λ s′ edits. unedited old.now.trees _ s′ (gone_soundly old.now.trees (ids_of found.0) keeps) edits) (λ done. gave done.2)))
    (λ written. concluded (record { limit = old.step_limit; keys = Enforced; schema = bureau; table = bureau_version; params = [] }) old written.0 stop refl written.2)
  where
    unasked : (s : Option Error) → Queried old.step_limit (record { schema = bureau; trees = old.now.trees }) (record { lets = []; body = from_table 0 [] (0 ∷ []) [] }) [] (Err s) → IsSome old.step_limit
    unasked None none = absurd none
    unasked (Some e) (inl mismatch) = absurd (false≢true (sym mismatch.1))
    unasked (Some e) (inr (inl overflows)) = absurd (elim overflows.1 [ inl none ↦ none | inr some ↦ some.4 ])
    unasked (Some e) (inr (inr limited)) = limited.1

-- ---- the version

abbrev version_row : Row
version_row = Int (pos 1) ∷ Null ∷ Int (pos 2) ∷ []

version_fits : (db : Trees) → Keeps Unique bureau db → db 0 ≡ [] → IsSound db (record { table = bureau_version; gone = []; news = version_row ∷ [] })
unfolding binary value_cmp is_nan lib.Ieee.lt
version_fits db keeps none = record { free = refl; ruled = ruled; small = small }
  where
    fresh : are_fresh (db 0) (version_row ∷ []) ≡ true
    fresh = ap (λ rows. are_fresh rows (version_row ∷ [])) none

    ruled : (r : Refusal) → IsRefused bureau Enforced db (record { table = bureau_version; gone = []; news = version_row ∷ [] }) r → ⊥
    ruled (rule.Violates Datatype) fails = false≢true (sym fails)
    ruled (rule.Violates NotNull) fails = false≢true (sym fails)
    ruled (rule.Violates Check) fails = false≢true (sym fails)
    ruled (rule.Violates PrimaryKey) fails = both fresh fails
    ruled (rule.Violates Unique) fails = fails (keeps_version db (edited db (record { table = bureau_version; gone = []; news = version_row ∷ [] })) keeps)
    ruled (rule.Violates ForeignKey) fails = fails
    ruled Mismatch fails = false≢true (sym fails)
    ruled NoRowid fails = false≢true (sym fails)
    ruled BadReference fails = false≢true (sym fails)
    ruled TooDeep fails = fails

    storable : IsStorable (table_reals bureau_version) version_row
    storable = record {
      typed = λ c one. absurd (untyped c one);
      columns = (omega arith, omega arith);
      numbers = All-from_recursion (λ v. NotNan (number v)) version_row (whole_number (pos 1), (no_value, (whole_number (pos 2), tt)));
      short = omega arith;
    }

    small : (row : Row) → Has (version_row ∷ []) row → IsOversized bureau bureau_version row → ⊥
    small row (inl same) (inl big) = big (subst (IsStorableRow (table_reals bureau_version)) (sym same) (storable, omega arith))
    small row (inl same) (inr key) = all_has (λ (i : Index). i.table ≢ 0) indexes key.0 (
      (λ e. omega (arith, e)),
      (
        (λ e. omega (arith, e)),
        (
          (λ e. omega (arith, e)),
          (
            (λ e. omega (arith, e)),
            (
              (λ e. omega (arith, e)),
              (
                (λ e. omega (arith, e)),
                (
                  (λ e. omega (arith, e)),
                  (
                    (λ e. omega (arith, e)),
                    ((λ e. omega (arith, e)), ((λ e. omega (arith, e)), ((λ e. omega (arith, e)), tt))),
                  ),
                ),
              ),
            ),
          ),
        ),
      ),
    ) key.1 key.2
    small row (inr none) big = absurd none

cast_version : cast_row bureau_version version_row ≡ version_row
cast_version = λ i. cast_int (pos 1) i ∷ cast_null i ∷ cast_int (pos 2) i ∷ []

pub version_sound : (db : Trees) → Keeps Unique bureau db → db 0 ≡ [] → IsSound db (edit_of db bureau_version [] Chosen 0 (version_row ∷ []))
version_sound db keeps none =
    subst (λ row. IsSound db (record { table = bureau_version; gone = []; news = numbered Chosen (db 0) (row ∷ []) })) (sym cast_version) (version_fits db keeps none)
