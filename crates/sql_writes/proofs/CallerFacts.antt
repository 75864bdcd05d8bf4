-- The rules of the tables say nothing against the rows of callers that are fit.
use Rattle.std.proofs.Common.{◌≡◌, ◌≤◌, ◌+◌, ◌+ℤ◌, ◌&&◌, ◌++◌, ℕ, ℤ, suc, pos, Bool, true, false, List, [], ◌∷◌, Some, Less, length, refl, sym, ◌∙◌, ap, subst, inl, inr, arith}
use Rattle.std.specs.Prelude.{◌^◌, fold, nat_lt, not, slice_get}
use Rattle.std.specs.List.{AllByRecursion, list_any}
use Rattle.std.specs.Float.{NotNan}
use Rattle.std.specs.Ordering.{is_eq}
use Rattle.std.specs.Str.{bytes_eq}
use Rattle.std.proofs.lemmas.Bool.{false_from_ne_true, false≢true, lt-ltb}
use Rattle.std.proofs.lemmas.List.{length-append}
use Rattle.std.proofs.lemmas.List.Elements.{All-from_recursion}
use Rattle.std.proofs.lemmas.Slice.Eq.{bytes_eq-Decides}
use Rattle.sqlite.specs.Cast.{cast_row}
use Rattle.sqlite.specs.Edit.{id_in, next_rowid, numbered}
use Rattle.sqlite_sql.specs.Ops.{fits_i64}
use Rattle.sqlite.specs.Ops.{binary, is_true}
use Rattle.sqlite.specs.Order.{Row, column, value_cmp}
use Rattle.sqlite.specs.Tree.{Trees, put_row, rowid}
use Rattle.sqlite.specs.declared.types.Value.{Value}
use Rattle.sqlite.specs.declared.types.Value.TheVariants.{Int, Null, Text}
use Rattle.sqlite_rules.specs.Edit.{IsOversized, IsRefused, are_fresh, edit_of, is_taken}
use Rattle.sqlite_rules.specs.Lists.{Has}
use Rattle.sqlite_rules.specs.declared.error.Refusal.{Refusal}
use Rattle.sqlite_rules.specs.declared.error.Refusal.TheVariants as rule
use Rattle.sqlite_rules.specs.declared.error.Refusal.TheVariants.{BadReference, Mismatch, NoRowid, TooDeep}
use Rattle.sqlite_rules.specs.declared.error.Rowids.TheVariants.{Chosen}
use Rattle.sqlite_rules.proofs.ListLemmas.{all_from, all_has, some_has}
use Rattle.sqlite_schema.specs.Rules.{Keeps, agree, clashes, differ, index_reals, passes, table_reals}
use Rattle.sqlite_schema.specs.declared.schema.Constraint.TheVariants.{Check, Datatype, ForeignKey, NotNull, PrimaryKey, Unique}
use Rattle.sqlite_schema.specs.declared.schema.Index.{Index}
use Rattle.sqlite_schema.specs.declared.schema.Keys.TheVariants.{Enforced}
use Rattle.sqlite.specs.Collation.TheVariants.{Binary}
use Rattle.sqlite_sql.specs.Catalog.{entry_of}
use Rattle.sqlite_sql.specs.declared.ops.BinaryOp.TheVariants.{Compare}
use Rattle.sqlite_sql.specs.declared.ops.CompareOp.TheVariants.{Eq}
use Rattle.sqlite_trees.specs.Tree.{with_tree}
use Rattle.sqlite_trees.specs.View.{IsStorable, IsStorableRow}
use Rattle.sqlite_value.specs.Keys.{first_key, plain}
use Rattle.sqlite_value.specs.Order.{number}
use Rattle.sql_texts.proofs.AnswerFacts.{same_text}
use Rattle.sql_texts.specs.Schema as schema
use Rattle.sql_texts.specs.Schema.{bureau, indexes}
use Rattle.mcs_reader.specs.Id.{text_of}
use Rattle.bureau_store.specs.declared.caller.CallerRow.{CallerRow}
use Rattle.sql_tables.specs.Rows.{caller_row}
use Rattle.sql_tables.specs.Numbered.{IsNumbered}
use Rattle.sql_writes.specs.Making.{AreApart, AreFit, caller_rows}
use Rattle.sql_rows.proofs.RowidFacts.{all_below, put_next}
use Rattle.sql_writes.proofs.RefusalFacts.{both}
use Rattle.sql_rows.proofs.FittingFacts.{plain_text, untyped, whole_number}
use Rattle.sql_writes.proofs.RuleFacts.{IsSound}
use Rattle.sql_rows.proofs.StatementFacts.{cast_null}
use Rattle.sql_rows.proofs.AbsentFacts.{itself}
use Rattle.sql_writes.proofs.NumberFacts.{one_more}

-- ---- the rows of callers

row_at : (first : ℕ) (callers : List CallerRow) (row : Row) → Has (caller_rows first callers) row
    → (i : ℕ) × (caller : CallerRow) × (slice_get callers i ≡ Some caller) × (row ≡ Int (pos (first + i)) ∷ caller_row caller)
row_at first [] row none = absurd none
row_at first (caller ∷ callers) row (inl same) = (0, caller, refl, same ∙ ap (λ n. Int (pos n) ∷ caller_row caller) (omega arith))
row_at first (caller ∷ callers) row (inr later) =
    let it = row_at (suc first) callers row later in
    (suc it.0, it.1, it.2, it.3 ∙ ap (λ n. Int (pos n) ∷ caller_row it.1) (omega arith))

pub rows_more : (first : ℕ) (callers : List CallerRow) (caller : CallerRow)
    → caller_rows first callers ++ (Int (pos (first + length callers)) ∷ caller_row caller) ∷ [] ≡ caller_rows first (callers ++ caller ∷ [])
rows_more first [] caller = ap (λ n. (Int (pos n) ∷ caller_row caller) ∷ []) (omega arith)
rows_more first (one ∷ callers) caller =
    ap (λ rows. (Int (pos first) ∷ caller_row one) ∷ rows)
    (ap (λ n. caller_rows (suc first) callers ++ (Int (pos n) ∷ caller_row caller) ∷ []) (omega arith) ∙ rows_more (suc first) callers caller)

pub next_from : (first : ℕ) (callers : List CallerRow) → fold (λ _ row. id_in (rowid row) +ℤ pos 1) (pos first) (caller_rows first callers) ≡ pos (first + length callers)
next_from first [] = ap pos (omega arith)
next_from first (caller ∷ callers) =
    ap (λ n. fold (λ _ row. id_in (rowid row) +ℤ pos 1) n (caller_rows (suc first) callers)) (one_more first) ∙ next_from (suc first) callers ∙ ap pos (omega arith)

-- ---- no two have one key

module _ (callers : List CallerRow) (at : ℕ) (text : CallerRow → List ℕ) (column_is : (n : ℤ) (caller : CallerRow) → column (Int n ∷ caller_row caller) at ≡ Text (text caller)) (apart : AreApart text callers) where
  no_pair : (i j : ℕ) (one other : CallerRow) → slice_get callers i ≡ Some one → slice_get callers j ≡ Some other
      → (agree plain (at ∷ []) (Int (pos (1 + j)) ∷ caller_row other) (at ∷ []) (Int (pos (1 + i)) ∷ caller_row one) && differ (Int (pos (1 + j))) (Int (pos (1 + i)))) ≡ false
  unfolding first_key
  no_pair i j one other here there =
      ap (λ b. (b && true) && differ (Int (pos (1 + j))) (Int (pos (1 + i)))) equal ∙ by (bytes_eq (text other) (text one)) refl
    where
      equal : is_true (binary (Compare Eq Binary) (column (Int (pos (1 + j)) ∷ caller_row other) at) (column (Int (pos (1 + i)) ∷ caller_row one) at)) ≡ bytes_eq (text other) (text one)
      equal = (λ k. is_true (binary (Compare Eq Binary) (column_is (pos (1 + j)) other k) (column_is (pos (1 + i)) one k))) ∙ same_text (Text (text other)) (text one)

      by : (b : Bool) → bytes_eq (text other) (text one) ≡ b → ((b && true) && differ (Int (pos (1 + j))) (Int (pos (1 + i)))) ≡ false
      by false same = refl
      by true same =
          let one_place : i ≡ j = apart i j one other here there (sym ((bytes_eq-Decides (text other) (text one)).0 same)) in
          ap (λ k. (true && true) && differ (Int (pos (1 + j))) (Int (pos (1 + k)))) one_place ∙ itself (pos (1 + j))

  no_clash : (row : Row) → Has (caller_rows 1 callers) row → clashes plain (at ∷ []) (caller_rows 1 callers) row ≡ false
  no_clash row here = false_from_ne_true _ (λ any.
      let other = some_has (λ other. agree plain (at ∷ []) other (at ∷ []) row && differ (rowid other) (rowid row)) (caller_rows 1 callers) any in
      let mine = row_at 1 callers row here in
      let its = row_at 1 callers other.0 other.1 in
      both other.2
      (ap (λ (r : Row). agree plain (at ∷ []) r (at ∷ []) row && differ (rowid r) (rowid row)) its.3
      ∙ ap (λ (r : Row). agree plain (at ∷ []) (Int (pos (1 + its.0)) ∷ caller_row its.1) (at ∷ []) r && differ (Int (pos (1 + its.0))) (rowid r)) mine.3
      ∙ no_pair mine.0 its.0 mine.1 its.1 mine.2 its.2))

keeps_callers : (db : Trees) (callers : List CallerRow) → AreFit callers → Keeps Unique bureau db → Keeps Unique bureau (with_tree db 1 (caller_rows 1 callers))
keeps_callers db callers fit keeps = (keeps.0, (all_from _ (caller_rows 1 callers) mine, keeps.1.1))
  where
    mine : (row : Row) → Has (caller_rows 1 callers) row → passes Unique bureau (with_tree db 1 (caller_rows 1 callers)) schema.caller row ≡ true
    mine row here =
        let name = no_clash callers 1 (λ caller. text_of caller.name) (λ n caller. refl) fit.names row here in
        let token = no_clash callers 2 (λ caller. caller.token) (λ n caller. refl) fit.tokens row here in
        (λ k. not (name k) && (not (token k) && true))

-- ---- one more row

none_equal : (rows : List Row) (value : Value) → AllByRecursion (λ row. value_cmp (rowid row) value ≡ Less) rows → list_any (λ row. is_eq (value_cmp (rowid row) value)) rows ≡ false
none_equal [] value low = refl
none_equal (row ∷ rows) value low = rw low.0 (none_equal rows value low.1)

not_taken : (values : Row) (rows : List Row) → IsNumbered rows → is_taken rows (Int (next_rowid rows) ∷ values) ≡ false
not_taken values [] numbered = refl
not_taken values (row ∷ rows) numbered = none_equal (row ∷ rows) (Int (next_rowid (row ∷ rows))) (all_below (pos 1) row rows numbered)

module _ (db : Trees) (before : List CallerRow) (caller : CallerRow) (keeps : Keeps Unique bureau db) (rows : db 1 ≡ caller_rows 1 before) (ordered : IsNumbered (db 1)) (fit : AreFit (before ++ caller ∷ [])) where
  abbrev new : Row
  new = Int (next_rowid (db 1)) ∷ caller_row caller

  next_is : next_rowid (db 1) ≡ pos (1 + length before)
  next_is = ap next_rowid rows ∙ next_from 1 before

  with_caller : put_row new (db 1) ≡ caller_rows 1 (before ++ caller ∷ [])
  with_caller =
      put_next (caller_row caller) (db 1) ordered ∙ (λ i. rows i ++ (Int (next_is i) ∷ caller_row caller) ∷ []) ∙ rows_more 1 before caller

  last_got : (callers : List CallerRow) → slice_get (callers ++ caller ∷ []) (length callers) ≡ Some caller
  last_got [] = refl
  last_got (one ∷ callers) = last_got callers

  fresh : are_fresh (db 1) (new ∷ []) ≡ true
  fresh = ap (λ b. not b && true) (not_taken (caller_row caller) (db 1) ordered)

  few : nat_lt (1 + length before) (2 ^ 63) ≡ true
  few = lt-ltb _ _ (let most = fit.few in let size = length-append before (caller ∷ []) in omega (arith, most, size))

  within : (fits_i64 (next_rowid (db 1)) && true) ≡ true
  within = ap (λ n. fits_i64 n && true) next_is ∙ ap (λ b. b && true) few

  sound_keys : Keeps Unique bureau (with_tree db 1 (put_row new (db 1)))
  sound_keys = subst (λ all. Keeps Unique bureau (with_tree db 1 all)) (sym with_caller) (keeps_callers db (before ++ caller ∷ []) fit keeps)

  short : length (text_of caller.name) + length caller.token + 100 ≤ 10 ^ 9
  short = fit.short (length before) caller (last_got before)

  storable : IsStorable 0 new
  storable = record {
    typed = λ c one. absurd (untyped c one);
    columns = (omega arith, omega arith);
    numbers = All-from_recursion (λ v. NotNan (number v)) new (whole_number (next_rowid (db 1)), (plain_text (text_of caller.name), (plain_text caller.token, tt)));
    short = let few_bytes = short in omega (arith, few_bytes);
  }

  name_entry : IsStorable 0 (Text (text_of caller.name) ∷ Int (next_rowid (db 1)) ∷ [])
  name_entry = record {
    typed = λ c one. absurd (untyped c one);
    columns = (omega arith, omega arith);
    numbers = All-from_recursion (λ v. NotNan (number v)) (Text (text_of caller.name) ∷ Int (next_rowid (db 1)) ∷ []) (plain_text (text_of caller.name), (whole_number (next_rowid (db 1)), tt));
    short = let few_bytes = short in omega (arith, few_bytes);
  }

  token_entry : IsStorable 0 (Text caller.token ∷ Int (next_rowid (db 1)) ∷ [])
  token_entry = record {
    typed = λ c one. absurd (untyped c one);
    columns = (omega arith, omega arith);
    numbers = All-from_recursion (λ v. NotNan (number v)) (Text caller.token ∷ Int (next_rowid (db 1)) ∷ []) (plain_text caller.token, (whole_number (next_rowid (db 1)), tt));
    short = let few_bytes = short in omega (arith, few_bytes);
  }

  small_key : (index : Index) → Has indexes index → index.table ≡ 1 → IsStorable (index_reals (table_reals schema.caller) index.columns) (entry_of index.columns new)
  small_key index here = all_has (λ (i : Index). i.table ≡ 1 → IsStorable (index_reals (table_reals schema.caller) i.columns) (entry_of i.columns new)) indexes index (
    (λ e. name_entry),
    (
      (λ e. token_entry),
      (
        (λ e. absurd (omega (arith, e))),
        (
          (λ e. absurd (omega (arith, e))),
          (
            (λ e. absurd (omega (arith, e))),
            (
              (λ e. absurd (omega (arith, e))),
              ((λ e. absurd (omega (arith, e))), ((λ e. absurd (omega (arith, e))), ((λ e. absurd (omega (arith, e))), ((λ e. absurd (omega (arith, e))), ((λ e. absurd (omega (arith, e))), tt))))),
            ),
          ),
        ),
      ),
    ),
  ) here

  caller_fits : IsSound db (record { table = schema.caller; gone = []; news = new ∷ [] })
  caller_fits = record { free = refl; ruled = ruled; small = small }
    where
      ruled : (r : Refusal) → IsRefused bureau Enforced db (record { table = schema.caller; gone = []; news = new ∷ [] }) r → ⊥
      ruled (rule.Violates Datatype) fails = false≢true (sym fails)
      ruled (rule.Violates NotNull) fails = false≢true (sym fails)
      ruled (rule.Violates Check) fails = false≢true (sym fails)
      ruled (rule.Violates PrimaryKey) fails = both fresh fails
      ruled (rule.Violates Unique) fails = fails sound_keys
      ruled (rule.Violates ForeignKey) fails = fails
      ruled Mismatch fails = false≢true (sym fails)
      ruled NoRowid fails = both within fails
      ruled BadReference fails = false≢true (sym fails)
      ruled TooDeep fails = fails

      small : (row : Row) → Has (new ∷ []) row → IsOversized bureau schema.caller row → ⊥
      small row (inl same) (inl big) = big (subst (IsStorableRow (table_reals schema.caller)) (sym same) (storable, omega arith))
      small row (inl same) (inr key) = key.3 (subst (λ r. IsStorable (index_reals (table_reals schema.caller) key.0.columns) (entry_of key.0.columns r)) (sym same) (small_key key.0 key.1 key.2))
      small row (inr none) big = absurd none

  pub caller_sound : IsSound db (edit_of db schema.caller [] Chosen 0 ((Null ∷ caller_row caller) ∷ []))
  caller_sound =
      let kept : cast_row schema.caller (Null ∷ caller_row caller) ≡ Null ∷ caller_row caller = λ i. cast_null i ∷ caller_row caller in
      subst (λ row. IsSound db (record { table = schema.caller; gone = []; news = numbered Chosen (db 1) (row ∷ []) })) (sym kept) caller_fits
