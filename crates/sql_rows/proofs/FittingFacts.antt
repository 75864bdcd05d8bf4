-- The rows that the bureau writes break no rule that speaks of one row, and can be stored: by the kinds of their table's
-- columns, and by how many bytes each value has at most.
use Rattle.std.proofs.Common.{◌≡◌, ◌≤◌, ◌<◌, ◌+◌, ◌^◌, ◌&&◌, ◌==◌, ℕ, ℤ, zero, suc, pos, negsuc, Bool, true, List, [], ◌∷◌, Some, length, refl, sym, ◌∙◌, ap, ap₂, subst, arith, int_cmp}
use Rattle.std.specs.Prelude.{filter, nat_le, nat_lt, not, slice_index_or, sum_by}
use Rattle.std.specs.Float.{NotNan}
use Rattle.std.specs.Int.{bit_at}
use Rattle.std.specs.List.{AllByRecursion, list_all}
use Rattle.std.specs.Ordering.{is_ge, is_gt, is_le}
use lib.Ieee.{is_nan}
use Rattle.std.proofs.lemmas.Bool.{and_parts, eqb-true, false≢true, leb-true, ltb-true}
use Rattle.std.proofs.lemmas.Bool.Decides.{nat_tests}
use Rattle.std.proofs.lemmas.Int.{ints}
use Rattle.std.proofs.lemmas.Nat.Bits.{bit_at-zero}
use Rattle.std.proofs.lemmas.List.Elements.{All-from_recursion}
use Rattle.std.proofs.lemmas.List.Sums.{sum_by-cons}
use Rattle.sqlite.specs.Cast.{cast, cast_all, cast_row}
use Rattle.sqlite.specs.Collation.TheVariants.{Binary}
use Rattle.sqlite.specs.Ops.{binary, from_truth}
use Rattle.sqlite.specs.Order.{Row, bytes, column, value_cmp}
use Rattle.sqlite.specs.Table.{Table}
use Rattle.sqlite.specs.declared.types.Value.{Value}
use Rattle.sqlite.specs.declared.types.Value.TheVariants.{Blob, Int, Null, Real, Text}
use Rattle.sqlite_rules.proofs.ListLemmas.{test_has}
use Rattle.sqlite_schema.specs.Rules.{index_reals, passes_checks, table_reals}
use Rattle.sqlite_schema.specs.declared.schema.Column.{Column}
use Rattle.sqlite_schema.specs.declared.schema.Index.{Index}
use Rattle.sqlite_schema.specs.declared.schema.Kind.{Kind}
use Rattle.sqlite_schema.specs.declared.schema.Kind.TheVariants as kind
use Rattle.sqlite_schema.specs.declared.schema.Reference.{Reference}
use Rattle.sqlite_sql.specs.Catalog.{entry_of}
use Rattle.sqlite_sql.specs.Ops.{is_false}
use Rattle.sqlite_sql.specs.declared.ops.BinaryOp.TheVariants.{And, Compare}
use Rattle.sqlite_sql.specs.declared.ops.CompareOp.TheVariants.{Ge, Gt, Le}
use Rattle.sqlite_trees.specs.View.{IsStorable}
use Rattle.sqlite_value.proofs.OrderLemmas.{value_cmp-Int}
use Rattle.sqlite_value.specs.Order.{number}
use Rattle.mcs_reader.specs.Id.{IsId, text_of}
use Rattle.mcs_reader.proofs.IdFacts.{text_is_few}
use Rattle.holddata.specs.HoldKey.{kind_order}
use Rattle.holddata.specs.declared.key.Kind.{Kind as HoldKind}
use Rattle.holddata.specs.declared.key.Kind.TheVariants.{ErrorHold, FixcatHold, SystemHold, UserHold}
use Rattle.catalogue.specs.declared.sysmod.SysmodKind.{SysmodKind}
use Rattle.catalogue.specs.declared.sysmod.SysmodKind.TheVariants.{Apar, Func, Ptf, Usermod}
use Rattle.zone_lists.specs.declared.zones.ZoneState.{ZoneState}
use Rattle.zone_lists.specs.declared.zones.ZoneState.TheVariants.{Accepted, Applied, Superseded}
use Rattle.sql_tables.specs.Values.{state_order, sysmod_kind_order}
use Rattle.sql_texts.specs.Schema.{indexes}
use Rattle.sql_rows.specs.Fitting.{AreWithin, IsFitting, IsWithin, are_kept, entry_bounds, fit_in_entry, fit_together, has_none, is_kept, is_of_kinds, takes}
use Rattle.sql_rows.proofs.StatementFacts.{cast_int, cast_null}

-- ---- one value

pub whole_number : (n : ℤ) → NotNan (number (Int n))
unfolding is_nan
whole_number (pos n) = tt
whole_number (negsuc n) = tt

pub plain_text : (t : List ℕ) → NotNan (number (Text t))
unfolding is_nan
plain_text t = tt

pub no_value : NotNan (number Null)
unfolding is_nan
no_value = tt

-- the columns of no table here are REAL
pub untyped : (c : ℕ) → bit_at 0 c ≡ 1 → ⊥
untyped c one = let none = bit_at-zero c in omega (arith, one, none)

plain_blob : (b : List ℕ) → NotNan (number (Blob b))
unfolding is_nan
plain_blob b = tt

-- ---- lengths and numbers

pub few : (id : List ℕ) → IsId id → length (text_of id) ≤ 7
few id is = text_is_few (text_of id) is.0

pub kind_low : (kind : HoldKind) → kind_order kind ≤ 3
kind_low ErrorHold = omega arith
kind_low SystemHold = omega arith
kind_low UserHold = omega arith
kind_low FixcatHold = omega arith

pub sysmod_kind_low : (kind : SysmodKind) → sysmod_kind_order kind ≤ 3
sysmod_kind_low Func = omega arith
sysmod_kind_low Ptf = omega arith
sysmod_kind_low Apar = omega arith
sysmod_kind_low Usermod = omega arith

pub state_low : (state : ZoneState) → state_order state ≤ 2
state_low Applied = omega arith
state_low Accepted = omega arith
state_low Superseded = omega arith

-- ---- what columns make of values

cast_kept : (kind : Kind) (value : Value) → is_kept kind value ≡ true → cast kind value ≡ value
cast_kept kind.Integer (Int n) is = cast_int n
cast_kept kind.Text (Text t) is = refl
cast_kept kind.Blob (Blob b) is = refl
cast_kept _ _ is = absurd (false≢true is)

all_kept : (columns : List Column) (values : Row) → are_kept columns values ≡ true → cast_all columns values ≡ values
all_kept [] [] is = refl
all_kept [] (value ∷ values) is = absurd (false≢true is)
all_kept (column ∷ columns) [] is = absurd (false≢true is)
all_kept (column ∷ columns) (value ∷ values) is =
    let parts = and_parts (is_kept column.kind value) (are_kept columns values) is in
    ap₂ ◌∷◌ (cast_kept column.kind value parts.0) (all_kept columns values parts.1)

-- a row stays as it is, whose values are of the columns' kinds
pub stays : (table : Table) (values : Row) → are_kept table.columns values ≡ true → cast_row table (Null ∷ values) ≡ Null ∷ values
stays table values is = ap₂ ◌∷◌ cast_null (all_kept table.columns values is)

-- ---- rows and entries whose values are short together

bytes_within : (most : ℕ) (value : Value) → IsWithin most value → length (bytes value) ≤ most
bytes_within most Null is = absurd is
bytes_within most (Int n) is = omega arith
bytes_within most (Real x) is = absurd is
bytes_within most (Text t) is = is
bytes_within most (Blob b) is = is

plain_value : (most : ℕ) (value : Value) → IsWithin most value → NotNan (number value)
plain_value most Null is = absurd is
plain_value most (Int n) is = whole_number n
plain_value most (Real x) is = absurd is
plain_value most (Text t) is = plain_text t
plain_value most (Blob b) is = plain_blob b

as_many : (bounds : List ℕ) (row : Row) → AreWithin bounds row → length bounds ≡ length row
as_many [] [] is = refl
as_many [] (value ∷ values) is = absurd is
as_many (most ∷ bounds) [] is = absurd is
as_many (most ∷ bounds) (value ∷ values) is = ap suc (as_many bounds values is.1)

plain_values : (bounds : List ℕ) (row : Row) → AreWithin bounds row → AllByRecursion (λ v. NotNan (number v)) row
plain_values [] [] is = tt
plain_values [] (value ∷ values) is = absurd is
plain_values (most ∷ bounds) [] is = absurd is
plain_values (most ∷ bounds) (value ∷ values) is = (plain_value most value is.0, plain_values bounds values is.1)

abbrev weight : Value → ℕ
weight value = 18 + length (bytes value)

abbrev room : ℕ → ℕ
room most = 18 + most

weighs : (bounds : List ℕ) (row : Row) → AreWithin bounds row → sum_by weight row ≤ sum_by room bounds
weighs [] [] is = omega arith
weighs [] (value ∷ values) is = absurd is
weighs (most ∷ bounds) [] is = absurd is
weighs (most ∷ bounds) (value ∷ values) is =
    let here : length (bytes value) ≤ most = bytes_within most value is.0 in
    let later : sum_by weight values ≤ sum_by room bounds = weighs bounds values is.1 in
    let both : weight value + sum_by weight values ≤ room most + sum_by room bounds = omega (arith, here, later) in
    subst (λ n. n ≤ sum_by room (most ∷ bounds)) (sym (sum_by-cons weight value values)) (subst (λ n. weight value + sum_by weight values ≤ n) (sym (sum_by-cons room most bounds)) both)

storable : (bounds : List ℕ) (row : Row) → fit_together bounds ≡ true → AreWithin bounds row → IsStorable 0 row
storable bounds row fit is =
    let some = and_parts (nat_lt 0 (length bounds)) (nat_le (length bounds) 2001 && nat_le (sum_by room bounds) (10 ^ 9)) fit in
    let few = and_parts (nat_le (length bounds) 2001) (nat_le (sum_by room bounds) (10 ^ 9)) some.1 in
    let one : 0 < length bounds = ltb-true 0 (length bounds) some.0 in
    let most : length bounds ≤ 2001 = leb-true (length bounds) 2001 few.0 in
    let all : sum_by room bounds ≤ 10 ^ 9 = leb-true (sum_by room bounds) (10 ^ 9) few.1 in
    let same : length bounds ≡ length row = as_many bounds row is in
    let light : sum_by weight row ≤ sum_by room bounds = weighs bounds row is in
    record {
      typed = λ c one. absurd (untyped c one);
      columns = (omega (arith, one, same), omega (arith, most, same));
      numbers = All-from_recursion (λ v. NotNan (number v)) row (plain_values bounds row is);
      short = omega (arith, all, light);
    }

-- ---- an entry of an index

unreal : (columns : List ℕ) → index_reals 0 columns ≡ 0
unreal [] = refl
unreal (place ∷ columns) = let here = bit_at-zero place in let later = unreal columns in omega (arith, here, later)

column_within : (bounds : List ℕ) (row : Row) (place : ℕ) → place < length bounds → AreWithin bounds row → IsWithin (slice_index_or bounds place 0) (column row place)
column_within [] row place low is = absurd (omega (arith, low))
column_within (most ∷ bounds) [] place low is = absurd is
column_within (most ∷ bounds) (value ∷ values) zero low is = is.0
column_within (most ∷ bounds) (value ∷ values) (suc place) low is = column_within bounds values place (omega (arith, low)) is.1

entry_within : (bounds : List ℕ) (n : ℤ) (values : Row) → AreWithin bounds values → (columns : List ℕ) → list_all (λ place. nat_lt place (length (0 ∷ bounds))) columns ≡ true
    → AreWithin (entry_bounds (0 ∷ bounds) columns) (entry_of columns (Int n ∷ values))
entry_within bounds n values is [] low = (tt, tt)
entry_within bounds n values is (place ∷ columns) low =
    let parts = and_parts (nat_lt place (length (0 ∷ bounds))) (list_all (λ p. nat_lt p (length (0 ∷ bounds))) columns) low in
    (column_within (0 ∷ bounds) (Int n ∷ values) place (ltb-true place (length (0 ∷ bounds)) parts.0) (tt, is), entry_within bounds n values is columns parts.1)

pub none_listed : (references : List Reference) → has_none references ≡ true → references ≡ []
none_listed [] is = refl
none_listed (reference ∷ references) is = absurd (false≢true is)

-- ---- the checks

is_at_least : (n : ℕ) → is_ge (int_cmp (pos n) (pos 0)) ≡ true
is_at_least n = grind (arith, ints, nat_tests)

is_at_most : (n high : ℕ) → n ≤ high → is_le (int_cmp (pos n) (pos high)) ≡ true
is_at_most n high low = grind (arith, ints, nat_tests, low)

is_above : (n : ℕ) → 0 < n → is_gt (int_cmp (pos n) (pos 0)) ≡ true
is_above n some = grind (arith, ints, nat_tests)

-- a number from 0 up to one passes the check that it is
pub up_to_passes : (n high : ℕ) → n ≤ high
    → (not (is_false (binary And (binary (Compare Ge Binary) (Int (pos n)) (Int (pos 0))) (binary (Compare Le Binary) (Int (pos n)) (Int (pos high))))) && true) ≡ true
unfolding binary
up_to_passes n high low =
    let least : is_ge (value_cmp (Int (pos n)) (Int (pos 0))) ≡ true = ap is_ge (value_cmp-Int (pos n) (pos 0)) ∙ is_at_least n in
    let most : is_le (value_cmp (Int (pos n)) (Int (pos high))) ≡ true = ap is_le (value_cmp-Int (pos n) (pos high)) ∙ is_at_most n high low in
    ap₂ (λ a b. not (is_false (binary And (from_truth (Some a)) (from_truth (Some b)))) && true) least most

-- and so does a number above 0
pub above_passes : (n : ℕ) → 0 < n → (not (is_false (binary (Compare Gt Binary) (Int (pos n)) (Int (pos 0)))) && true) ≡ true
unfolding binary
above_passes n some =
    ap (λ o. not (is_false (from_truth (Some (is_gt o)))) && true) (value_cmp-Int (pos n) (pos 0))
    ∙ ap (λ b. not (is_false (from_truth (Some b))) && true) (is_above n some)

-- ---- a row of a table

abbrev on_table : Table → List Index
on_table table = filter (λ (i : Index). i.table == table.tree) indexes

abbrev fit_in_all : Table → List ℕ → Bool
fit_in_all table bounds = fit_together (0 ∷ bounds) && list_all (fit_in_entry (0 ∷ bounds)) (on_table table)

-- what the test says of a table
record Takes (table : Table) (bounds : List ℕ) : Type 0 where
  pub alone : table.references ≡ []
  pub reals : table_reals table ≡ 0
  pub some : 0 < length bounds
  pub row : fit_together (0 ∷ bounds) ≡ true
  pub entries : list_all (fit_in_entry (0 ∷ bounds)) (on_table table) ≡ true

taken : (table : Table) (bounds : List ℕ) → takes table bounds ≡ true → Takes table bounds
taken table bounds is =
    let alone = and_parts (has_none table.references) ((table_reals table == 0) && (nat_lt 0 (length bounds) && fit_in_all table bounds)) is in
    let reals = and_parts (table_reals table == 0) (nat_lt 0 (length bounds) && fit_in_all table bounds) alone.1 in
    let some = and_parts (nat_lt 0 (length bounds)) (fit_in_all table bounds) reals.1 in
    let fit = and_parts (fit_together (0 ∷ bounds)) (list_all (fit_in_entry (0 ∷ bounds)) (on_table table)) some.1 in
    record {
      alone = none_listed table.references alone.0;
      reals = eqb-true (table_reals table) 0 reals.0;
      some = ltb-true 0 (length bounds) some.0;
      row = fit.0;
      entries = fit.1;
    }

-- a row whose values are of the columns' kinds and have at most so many bytes, and which passes the checks
pub row_fits : (table : Table) (bounds : List ℕ) (values : Row) → takes table bounds ≡ true → ((n : ℤ) → is_of_kinds table (Int n ∷ values) ≡ true)
    → ((n : ℤ) → passes_checks table (Int n ∷ values) ≡ true) → AreWithin bounds values → IsFitting table values
row_fits table bounds values large of_kinds checked is =
    let it = taken table bounds large in
    let same : length bounds ≡ length values = as_many bounds values is in
    let some : 0 < length bounds = it.some in
    record {
      cast = stays table values (and_parts _ _ (of_kinds (pos 0))).0;
      alone = it.alone;
      typed = λ db n. (and_parts _ _ (and_parts _ _ (of_kinds n)).1).0;
      present = λ db n. (and_parts _ _ (and_parts _ _ (of_kinds n)).1).1;
      checked = λ db n. checked n;
      storable = λ n. (subst (λ reals. IsStorable reals (Int n ∷ values)) (sym it.reals) (storable (0 ∷ bounds) (Int n ∷ values) it.row (tt, is)), omega (arith, some, same));
      keys = λ n index here.
          let parts = and_parts _ _ (test_has (fit_in_entry (0 ∷ bounds)) (on_table table) index it.entries here) in
          subst (λ reals. IsStorable reals (entry_of index.columns (Int n ∷ values))) (sym (ap (λ reals. index_reals reals index.columns) it.reals ∙ unreal index.columns))
          (storable (entry_bounds (0 ∷ bounds) index.columns) (entry_of index.columns (Int n ∷ values)) parts.1 (entry_within bounds n values is index.columns parts.0));
    }
