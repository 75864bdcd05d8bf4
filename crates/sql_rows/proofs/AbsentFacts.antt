-- Where no row has a key: as the database compares keys, and after rows with it went.
use Rattle.std.proofs.Common.{◌≡◌, ◌<◌, ◌&&◌, ◌||◌, ◌==◌, ◌++◌, ℕ, zero, suc, ℤ, Bool, true, false, List, [], ◌∷◌, length, take, get_or, map, Less, Ordering, refl, sym, ◌∙◌, ap, ap₂, subst, inl, inr, arith}
use Rattle.std.specs.Prelude.{None, Some, bytes_eq, cond, drop, filter, not}
use Rattle.std.specs.List.{AllByRecursion, list_all, list_any}
use Rattle.std.specs.List.Sorted.{IsStrictlySortedBy}
use Rattle.std.specs.Ordering.{is_eq, is_ne}
use Rattle.std.proofs.Math.Bool.{and-true}
use Rattle.std.proofs.lemmas.Bool.{and_parts, both_ways, eq-eqb, eqb-true, false_from_ne_true, false≢true, not-true}
use Rattle.std.proofs.lemmas.Cmp.{tied_itself}
use Rattle.std.proofs.lemmas.List.{append-nil}
use Rattle.catalogue.proofs.IdFacts.{one_id}
use Rattle.holddata.specs.declared.key.HoldKey.{HoldKey}
use Rattle.mcs_reader.specs.Id.{IsId, text_of}
use Rattle.sqlite.specs.Collation.TheVariants.{Binary}
use Rattle.sqlite.specs.Effect.{Database}
use Rattle.sqlite.specs.Order.{Row, column}
use Rattle.sqlite.specs.Edit.{next_rowid}
use Rattle.sqlite.specs.Ops.{binary, from_truth, is_true}
use Rattle.sqlite.specs.Table.{Table}
use Rattle.sqlite.specs.Tree.{Trees, put_row, rowid}
use Rattle.sqlite.specs.declared.types.Value.TheVariants.{Int}
use Rattle.sqlite_rules.specs.Keys.{are_unique}
use Rattle.sqlite_rules.specs.Lists.{Has}
use Rattle.sqlite_rules.proofs.ListLemmas.{all_has, has_either, has_filtered, some_from, some_has, test_from, test_has}
use Rattle.sqlite_rules.proofs.TableLemmas.{put_has}
use Rattle.sqlite_value.proofs.OrderLemmas.{value_cmp_total}
use Rattle.sqlite_schema.specs.Rules.{Keeps, agree, are_typed, clashes, differ, equal, guards}
use Rattle.sqlite_schema.specs.declared.schema.Constraint.TheVariants.{Datatype}
use Rattle.sqlite_schema.specs.declared.schema.Index.{Index}
use Rattle.sqlite_trees.proofs.ListLemmas.{all_weaker}
use Rattle.sqlite_trees.specs.Tree.{with_tree}
use Rattle.sqlite_value.specs.Keys.{first_key, plain}
use Rattle.sqlite_value.specs.declared.keys.Order.{Order}
use Rattle.sql_texts.specs.Found.{is_text, passes}
use Rattle.sql_texts.specs.Schema as schema
use Rattle.sql_texts.specs.Schema.{bureau}
use Rattle.sql_tables.specs.Changes.{is_under, replaced}
use Rattle.sql_tables.specs.InTrees.{columns_of}
use Rattle.sql_tables.specs.Stored.{is_named, is_of}
use Rattle.sql_tables.specs.Values.{hold_kind_value, id_value}
use Rattle.sql_tables.specs.Writing.{IsKnown}
use Rattle.sql_tables.proofs.TextFacts.{text_given, text_named}
use Rattle.sql_rows.proofs.KindFacts.{key_given}
use Rattle.sql_rows.proofs.RowidFacts.{any_mapped}

-- ---- no row has the key of a new one

pub itself : (n : ℤ) → differ (Int n) (Int n) ≡ false
unfolding binary
itself n = ap (λ o. is_true (from_truth (Some (is_ne o)))) (tied_itself value_cmp_total (Int n))

-- none of the rows has the new one's key
pub unclashed : (places : List ℕ) (rows : List Row) (n : ℤ) (values : Row) → list_any (λ other. agree plain places other places (Int n ∷ values)) rows ≡ false
    → clashes plain places (put_row (Int n ∷ values) rows) (Int n ∷ values) ≡ false
unclashed places rows n values none = false_from_ne_true _ (λ any.
    let new = Int n ∷ values in
    let other = some_has (λ other. agree plain places other places new && differ (rowid other) (rowid new)) (put_row new rows) any in
    let parts = and_parts _ _ other.2 in
    elim (put_has new rows other.0 other.1) [
      | inl same ↦ both_ways _ (itself n) (subst (λ (r : Row). differ (rowid r) (Int n) ≡ true) same parts.1)
      | inr was ↦ both_ways _ none (some_from (λ (other : Row). agree plain places other places new) rows other.0 was parts.0)
    ])

-- ---- how the database compares keys

-- whether a row's columns from one on are these names, one of them at least
abbrev pub and_names : Bool → ℕ → List (List ℕ) → Row → Bool
and_names so_far at [] row = so_far
and_names so_far at (name ∷ names) row = so_far && and_names (is_named name (column row at)) (suc at) names row

abbrev pub has_names : List ℕ → List (List ℕ) → Row → Bool
has_names name names row = and_names (is_named name (column row 0)) 1 names row

-- a row has ids in these columns
abbrev pub AreIds : ℕ → List (List ℕ) → Row → Type 0
AreIds at [] row = Unit {0}
AreIds at (name ∷ names) row = (IsId name × (column row at ≡ id_value name)) × AreIds (suc at) names row

-- the places of so many columns, after the rowid
abbrev pub places_from : ℕ → List (List ℕ) → List ℕ
places_from at [] = []
places_from at (name ∷ names) = suc at ∷ places_from (suc at) names

module _ (n : ℤ) (values other : Row) where
  agree_at : (at : ℕ) (name : List ℕ) → IsId name → column values at ≡ id_value name
      → equal Binary (column other (suc at)) (column (Int n ∷ values) (suc at)) ≡ is_named name (column (drop 1 other) at)
  agree_at at name is here = ap (λ value. equal Binary (column other (suc at)) value) here ∙ text_given name is other at

  agree_names : (at : ℕ) (name : List ℕ) (names : List (List ℕ)) → AreIds at (name ∷ names) values
      → agree plain (places_from at (name ∷ names)) other (places_from at (name ∷ names)) (Int n ∷ values) ≡ and_names (is_named name (column (drop 1 other) at)) (suc at) names (drop 1 other)
  unfolding first_key
  agree_names at name [] are = and-true _ ∙ agree_at at name are.0.0 are.0.1
  agree_names at name (next ∷ names) are = ap₂ ◌&&◌ (agree_at at name are.0.0 are.0.1) (agree_names (suc at) next names are.1)

agree_hold : (n : ℤ) (other : Row) (key : HoldKey) (rest : Row) → IsId key.sysmod → IsId key.reason → are_typed None 0 schema.hold_row.columns (drop 1 other) ≡ true
    → agree plain (1 ∷ 2 ∷ 3 ∷ []) other (1 ∷ 2 ∷ 3 ∷ []) (Int n ∷ id_value key.sysmod ∷ hold_kind_value key.kind ∷ id_value key.reason ∷ rest) ≡ is_under key (drop 1 other)
unfolding first_key
agree_hold n other key rest is_sysmod is_reason typed = key_given key is_sysmod is_reason other typed

any_known : {X : Type 0} (f g : X → Bool) (xs : List X) → AllByRecursion (λ x. f x ≡ g x) xs → list_any f xs ≡ list_any g xs
any_known f g [] same = refl
any_known f g (x ∷ xs) same = ap₂ ◌||◌ same.0 (any_known f g xs same.1)

pub every : {X : Type 0} (P : X → Type 0) → ((x : X) → P x) → (xs : List X) → AllByRecursion P xs
every P each [] = tt
every P each (x ∷ xs) = (each x, every P each xs)

-- no row agrees where none has the key
module _ (places : List ℕ) (test : Row → Bool) (n : ℤ) (values : Row) (rows : List Row) where
  none_agrees : AllByRecursion (λ other. agree plain places other places (Int n ∷ values) ≡ test (drop 1 other)) rows → list_any test (columns_of rows) ≡ false
      → list_any (λ other. agree plain places other places (Int n ∷ values)) rows ≡ false
  none_agrees alike none =
      any_known (λ other. agree plain places other places (Int n ∷ values)) (λ other. test (drop 1 other)) rows alike ∙ sym (any_mapped test (drop 1) rows) ∙ none

  none_agree_so : ((other : Row) → agree plain places other places (Int n ∷ values) ≡ test (drop 1 other)) → list_any test (columns_of rows) ≡ false
      → list_any (λ other. agree plain places other places (Int n ∷ values)) rows ≡ false
  none_agree_so alike none = none_agrees (every (λ other. agree plain places other places (Int n ∷ values) ≡ test (drop 1 other)) alike rows) none

-- that no row has the text of an id tells that none has the id
pub none_of_text : (id : List ℕ) → IsId id → (rows : List Row) → list_any (λ other. is_text (text_of id) (column other 0)) rows ≡ false → list_any (is_of id) rows ≡ false
none_of_text id is rows none = ap (λ test. list_any test rows) (λ i other. sym (text_named id is (column other 0)) i) ∙ none

-- ---- a new row keeps the keys of its table apart, among any rows of it

-- each key of a table is of these columns
abbrev pub is_keyed_by : List ℕ → Table → Bool
is_keyed_by places table =
    list_all (λ (index : Index). not (guards index table) || (bytes_eq index.columns places && (index.order.digits == 0))) bureau.indexes

-- where no row has its key
module _ (table : Table) (places : List ℕ) (keyed : is_keyed_by places table ≡ true) (db : Trees) (others : List Row) (values : Row) where
  abbrev new : Row
  new = Int (next_rowid others) ∷ values

  abbrev after : Trees
  after = with_tree db table.tree (put_row new others)

  here : after table.tree ≡ put_row new others
  here = ap (λ b. cond b (put_row new others) (db table.tree)) (eq-eqb table.tree table.tree refl)

  apart : list_any (λ other. agree plain places other places new) others ≡ false → are_unique bureau.indexes after table (new ∷ []) ≡ true
  apart none = test_from (λ (index : Index). not (guards index table && list_any (clashes index.order index.columns (after table.tree)) (new ∷ []))) bureau.indexes
      (λ index listed. by index (guards index table) refl
      (test_has (λ (index : Index). not (guards index table) || (bytes_eq index.columns places && (index.order.digits == 0))) bureau.indexes index keyed listed))
    where
      clear : (index : Index) → index.columns ≡ places → index.order ≡ plain → clashes index.order index.columns (after table.tree) new ≡ false
      clear index columns order =
          ap₂ (λ (o : Order) ps. clashes o ps (after table.tree) new) order columns ∙ ap (λ rows. clashes plain places rows new) here ∙ unclashed places others (next_rowid others) values none

      by : (index : Index) (b : Bool) → guards index table ≡ b → (not (guards index table) || (bytes_eq index.columns places && (index.order.digits == 0))) ≡ true
          → not (b && list_any (clashes index.order index.columns (after table.tree)) (new ∷ [])) ≡ true
      by index false guarded keys = refl
      by index true guarded keys =
          let parts = and_parts (bytes_eq index.columns places) (index.order.digits == 0) (subst (λ b. (not b || (bytes_eq index.columns places && (index.order.digits == 0))) ≡ true) guarded keys) in
          let digits = eqb-true index.order.digits 0 parts.1 in
          let order : index.order ≡ plain = λ i. record { digits = digits i } in
          ap (λ b. not (b || false)) (clear index (one_id index.columns places parts.0) order)

-- a row whose key begins with ids, and has no more columns
pub unique_by : (table : Table) (db : Trees) (others : List Row) (name : List ℕ) (names : List (List ℕ)) (values : Row) → is_keyed_by (places_from 0 (name ∷ names)) table ≡ true
    → AreIds 0 (name ∷ names) values → list_any (has_names name names) (columns_of others) ≡ false
    → are_unique bureau.indexes (with_tree db table.tree (put_row (Int (next_rowid others) ∷ values) others)) table ((Int (next_rowid others) ∷ values) ∷ []) ≡ true
unique_by table db others name names values keyed are none =
    let places = places_from 0 (name ∷ names) in
    apart table places keyed db others values
    (none_agree_so places (has_names name names) (next_rowid others) values others (λ other. agree_names (next_rowid others) values other 0 name names are) none)

-- a hold, whose kind is a whole number by the rules of its table
pub unique_hold : (database : Database) → IsKnown database → (key : HoldKey) (rest : Row) → IsId key.sysmod → IsId key.reason → list_any (is_under key) (columns_of (database.trees 11)) ≡ false
    → are_unique bureau.indexes (with_tree database.trees 11 (put_row (Int (next_rowid (database.trees 11)) ∷ id_value key.sysmod ∷ hold_kind_value key.kind ∷ id_value key.reason ∷ rest) (database.trees 11))) schema.hold_row
    ((Int (next_rowid (database.trees 11)) ∷ id_value key.sysmod ∷ hold_kind_value key.kind ∷ id_value key.reason ∷ rest) ∷ []) ≡ true
unique_hold database known key rest is_sysmod is_reason none =
    let values = id_value key.sysmod ∷ hold_kind_value key.kind ∷ id_value key.reason ∷ rest in
    let sound = subst (λ s. Keeps Datatype s database.trees) known.schema (known.sound.obeys.rules Datatype) in
    let alike = all_weaker _ (λ other. agree plain (1 ∷ 2 ∷ 3 ∷ []) other (1 ∷ 2 ∷ 3 ∷ []) (Int (next_rowid (database.trees 11)) ∷ values) ≡ is_under key (drop 1 other))
    (λ other ok. agree_hold (next_rowid (database.trees 11)) other key rest is_sysmod is_reason (and_parts _ _ ok).0) (database.trees 11) sound.1.1.1.1.1.0 in
    apart schema.hold_row (1 ∷ 2 ∷ 3 ∷ []) refl database.trees (database.trees 11) values (none_agrees (1 ∷ 2 ∷ 3 ∷ []) (is_under key) (next_rowid (database.trees 11)) values (database.trees 11) alike none)

-- ---- after rows went

-- no row passes a test that is finer than the one by which rows went
gone_none : (test finer : Row → Bool) → ((row : Row) → finer row ≡ true → test row ≡ true) → (rows : List Row) → list_any finer (filter (λ row. not (test row)) rows) ≡ false
gone_none test finer so rows = false_from_ne_true _ (λ any.
    let it = some_has finer (filter (λ row. not (test row)) rows) any in
    both_ways _ (not-true _ (has_filtered (λ row. not (test row)) rows it.0 it.1).1) (so it.0 it.2))

pub gone_now : (test finer : Row → Bool) → ((row : Row) → finer row ≡ true → test row ≡ true) → (rows : List Row) → list_any finer (replaced test [] rows) ≡ false
gone_now test finer so rows = ap (list_any finer) (append-nil (filter (λ row. not (test row)) rows)) ∙ gone_none test finer so rows

-- and others came, none of which passes it
pub gone_and_come : {X : Type 0} (test finer : Row → Bool) → ((row : Row) → finer row ≡ true → test row ≡ true) → (rows : List Row) (make : X → Row) (xs : List X)
    → ((x : X) → Has xs x → finer (make x) ≡ true → ⊥) → list_any finer (replaced test [] rows ++ map make xs) ≡ false
gone_and_come {X} test finer so rows make xs never = false_from_ne_true _ (λ any.
    let it = some_has finer (replaced test [] rows ++ map make xs) any in
    elim (has_either (replaced test [] rows) (map make xs) it.0 it.1) [
      | inl left ↦ both_ways _ (gone_now test finer so rows) (there left it.2)
      | inr came ↦ let x = made xs came in never x.0 x.1 (ap finer (sym x.2) ∙ it.2)
    ])
  where
    there : {row : Row} → Has (replaced test [] rows) row → finer row ≡ true → list_any finer (replaced test [] rows) ≡ true
    there here passes = some_from finer (replaced test [] rows) _ here passes

    made : {row : Row} (ys : List X) → Has (map make ys) row → (x : X) × Has ys x × (row ≡ make x)
    made [] none = absurd none
    made (y ∷ ys) (inl same) = (y, inl refl, same)
    made (y ∷ ys) (inr later) = let x = made ys later in (x.0, inr x.1, x.2)

-- ---- lists whose elements ascend

earlier_less : {X : Type 0} (order : X → X → Ordering) (xs : List X) → IsStrictlySortedBy order xs → (i : ℕ) (x : X) → i < length xs → x ≡ get_or xs i x → AllByRecursion (λ y. order y x ≡ Less) (take i xs)
unfolding IsStrictlySortedBy
earlier_less order [] up i x low at = absurd (omega (arith, low))
earlier_less order (y ∷ ys) up zero x low at = tt
earlier_less order (y ∷ ys) up (suc i) x low at =
    let within : i < length ys = omega (arith, low) in
    (all_has (λ z. order y z ≡ Less) ys x up.0 (here ys i within at), earlier_less order ys up.1 i x within at)
  where
    here : (zs : List _) (k : ℕ) → k < length zs → x ≡ get_or zs k x → Has zs x
    here [] k low at = absurd (omega (arith, low))
    here (z ∷ zs) zero low at = inl at
    here (z ∷ zs) (suc k) low at = inr (here zs k (omega (arith, low)) at)

-- so none before it is the same
pub none_before : {X : Type 0} (order : X → X → Ordering) (xs : List X) → IsStrictlySortedBy order xs → (i : ℕ) (x : X) → i < length xs → x ≡ get_or xs i x
    → (y : X) → Has (take i xs) y → is_eq (order y x) ≡ true → ⊥
none_before order xs up i x low at y here tie = let less = all_has (λ z. order z x ≡ Less) (take i xs) y (earlier_less order xs up i x low at) here in false≢true (sym (ap is_eq less) ∙ tie)
