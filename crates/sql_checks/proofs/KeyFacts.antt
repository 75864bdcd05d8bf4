-- No two rows of a table have one key, by the rules of the database.
use Rattle.std.proofs.Common.{◌≡◌, ◌≢◌, ◌<◌, ◌&&◌, ℕ, suc, arith, true, false, List, [], ◌∷◌, drop, take, refl, sym, ◌∙◌, ap, ap₂, subst, IsTrue, Some, pos}
use Rattle.std.specs.List.{AllByRecursion, range_with_len}
use Rattle.std.specs.Ordering.{is_eq, is_ne}
use Rattle.std.specs.declared.cmp.Ordering.TheVariants.{Less}
use Rattle.std.proofs.lemmas.Bool.{or_parts}
use Rattle.std.proofs.lemmas.List.{get_or-take}
use Rattle.catalogue.proofs.IdFacts.{itself}
use Rattle.holddata.specs.declared.key.Kind.{Kind}
use Rattle.holddata.specs.declared.key.Kind.TheVariants.{ErrorHold, SystemHold, UserHold, FixcatHold}
use Rattle.mcs_reader.specs.Id.{text_of}
use Rattle.sqlite.specs.Collation.TheVariants.{Binary}
use Rattle.sqlite.specs.Tree.{rowid}
use Rattle.sqlite.specs.View.{is_int}
use Rattle.sqlite_schema.specs.Rules.{agree, clashes, differ, equal}
use Rattle.sqlite_sql.specs.Ops.{binary, from_truth, is_true}
use Rattle.sqlite_value.proofs.OrderLemmas.{value_cmp-Int}
use Rattle.sqlite_value.specs.Keys.{first_key, plain}
use Rattle.sqlite_value.specs.Order.{Row, column, value_cmp}
use Rattle.sqlite_value.specs.declared.value.Value.{Value}
use Rattle.sqlite_value.specs.declared.value.Value.TheVariants.{Null, Int, Real, Text, Blob}
use Rattle.sql_tables.specs.Numbered.{IsNumbered}
use Rattle.sql_tables.proofs.TreeFacts.{column_after}
use Rattle.sql_tables.specs.InTrees.{columns_of}
use Rattle.sql_tables.specs.Values.{hold_kind_value, id_value}
use Rattle.sql_tables.specs.Whole.{HaveOwnKeys}
use Rattle.sql_texts.proofs.AnswerFacts.{same_text}

-- ---- single values

-- rowids that rise differ
differs : (a b : Value) → IsTrue (is_int a) → IsTrue (is_int b) → value_cmp a b ≡ Less → differ a b ≡ true
unfolding binary
differs (Int m) (Int n) first second less = ap (λ o. is_true (from_truth (Some (is_ne o)))) less
differs (Int m) Null first second less = cc
differs (Int m) (Real x) first second less = cc
differs (Int m) (Text t) first second less = cc
differs (Int m) (Blob b) first second less = cc
differs Null b first second less = cc
differs (Real x) b first second less = cc
differs (Text t) b first second less = cc
differs (Blob c) b first second less = cc

text_itself : (id : List ℕ) → equal Binary (id_value id) (id_value id) ≡ true
text_itself id = same_text (id_value id) (text_of id) ∙ itself (text_of id)

kind_itself : (kind : Kind) → equal Binary (hold_kind_value kind) (hold_kind_value kind) ≡ true
unfolding binary
kind_itself ErrorHold = ap (λ o. is_true (from_truth (Some (is_eq o)))) (value_cmp-Int (pos 0) (pos 0))
kind_itself SystemHold = ap (λ o. is_true (from_truth (Some (is_eq o)))) (value_cmp-Int (pos 1) (pos 1))
kind_itself UserHold = ap (λ o. is_true (from_truth (Some (is_eq o)))) (value_cmp-Int (pos 2) (pos 2))
kind_itself FixcatHold = ap (λ o. is_true (from_truth (Some (is_eq o)))) (value_cmp-Int (pos 3) (pos 3))

-- a value that is equal to itself as SQL sees it
abbrev pub IsPlain : Value → Type 0
IsPlain value = equal Binary value value ≡ true

pub plain_id : (value : Value) (id : List ℕ) → value ≡ id_value id → IsPlain value
plain_id value id is = subst IsPlain (sym is) (text_itself id)

pub plain_kind : (value : Value) (kind : Kind) → value ≡ hold_kind_value kind → IsPlain value
plain_kind value kind is = subst IsPlain (sym is) (kind_itself kind)

-- ---- keys of one column, of two and of three

-- where the first columns are the same, so is each of them
same_at : (k : ℕ) (a b : Row) (at : ℕ) → at < k → take k (drop 1 a) ≡ take k (drop 1 b) → column a (suc at) ≡ column b (suc at)
same_at k a b at within same =
    sym (column_after a at) ∙ sym (get_or-take k (drop 1 a) at Null within) ∙ ap (λ row. column row at) same ∙ get_or-take k (drop 1 b) at Null within ∙ column_after b at

equal_at : (a b : Value) → IsPlain a → a ≡ b → equal Binary a b ≡ true
equal_at a b plain same = subst (λ v. equal Binary a v ≡ true) same plain

-- so many first columns of a row are plain
abbrev pub HavePlain : ℕ → Row → Type 0
HavePlain many row = AllByRecursion (λ at. IsPlain (column row at)) (range_with_len 0 many)

-- a column of a row, after the rowid, is plain, and equal to that of another row
equal_after : (k : ℕ) (a b : Row) (at : ℕ) → at < k → IsPlain (column (drop 1 a) at) → take k (drop 1 a) ≡ take k (drop 1 b) → equal Binary (column a (suc at)) (column b (suc at)) ≡ true
equal_after k a b at within is same = equal_at (column a (suc at)) (column b (suc at)) (subst IsPlain (column_after a at) is) (same_at k a b at within same)

pub agree_one : (a b : Row) → HavePlain 1 (drop 1 a) → take 1 (drop 1 a) ≡ take 1 (drop 1 b) → agree plain (1 ∷ []) a (1 ∷ []) b ≡ true
unfolding first_key
agree_one a b is same = let e = equal_after 1 a b 0 (omega arith) is.0 same in ap (λ x. x && true) e

pub agree_two : (a b : Row) → HavePlain 2 (drop 1 a) → take 2 (drop 1 a) ≡ take 2 (drop 1 b) → agree plain (1 ∷ 2 ∷ []) a (1 ∷ 2 ∷ []) b ≡ true
unfolding first_key
agree_two a b is same =
    let e = equal_after 2 a b 0 (omega arith) is.0 same in
    let f = equal_after 2 a b 1 (omega arith) is.1.0 same in ap₂ (λ x y. x && (y && true)) e f

pub agree_three : (a b : Row) → HavePlain 3 (drop 1 a) → take 3 (drop 1 a) ≡ take 3 (drop 1 b) → agree plain (1 ∷ 2 ∷ 3 ∷ []) a (1 ∷ 2 ∷ 3 ∷ []) b ≡ true
unfolding first_key
agree_three a b is same =
    let e = equal_after 3 a b 0 (omega arith) is.0 same in
    let f = equal_after 3 a b 1 (omega arith) is.1.0 same in
    let g = equal_after 3 a b 2 (omega arith) is.1.1.0 same in ap₂ (λ x y. x && y) e (ap₂ (λ x y. x && (y && true)) f g)

-- ---- rows that clash with none

module _ (k : ℕ) (places : List ℕ) (agrees : (a b : Row) → HavePlain k (drop 1 a) → take k (drop 1 a) ≡ take k (drop 1 b) → agree plain places a places b ≡ true) where
  -- a row has another key than each later one
  apart : (row : Row) (later rows : List Row) → HavePlain k (drop 1 row) → IsTrue (is_int (rowid row)) → AllByRecursion (λ b. value_cmp (rowid row) (rowid b) ≡ Less) later
      → AllByRecursion (λ b. IsTrue (is_int (rowid b))) later → AllByRecursion (λ b. clashes plain places (row ∷ rows) b ≡ false) later
      → AllByRecursion (λ other. take k (drop 1 row) ≢ take k other) (columns_of later)
  apart row [] rows keyed int rising ints free = tt
  apart row (b ∷ later) rows keyed int rising ints free = (
    λ same.
        let both : (agree plain places row places b && differ (rowid row) (rowid b)) ≡ true =
        rw (agrees row b keyed same, differs (rowid row) (rowid b) int ints.0 rising.0) refl in
        let never : true ≡ false = sym both ∙ (or_parts (agree plain places row places b && differ (rowid row) (rowid b)) (clashes plain places rows b) free.0).0 in cc,
    apart row later rows keyed int rising.1 ints.1 free.1,
  )

  -- those that clash with none of more rows clash with none of fewer
  fewer : (row : Row) (rows others : List Row) → AllByRecursion (λ b. clashes plain places (row ∷ rows) b ≡ false) others → AllByRecursion (λ b. clashes plain places rows b ≡ false) others
  fewer row rows [] free = tt
  fewer row rows (b ∷ others) free =
      ((or_parts (agree plain places row places b && differ (rowid row) (rowid b)) (clashes plain places rows b) free.0).1, fewer row rows others free.1)

  pub own_keys : (rows : List Row) → IsNumbered rows → AllByRecursion (HavePlain k) (columns_of rows) → AllByRecursion (λ b. clashes plain places rows b ≡ false) rows → HaveOwnKeys k (columns_of rows)
  own_keys [] numbered keyed free = tt
  own_keys (row ∷ rows) numbered keyed free = (
    apart row rows rows keyed.0 numbered.1.0 numbered.0.0 numbered.1.1 free.1,
    own_keys rows (numbered.0.1, numbered.1.1) keyed.1 (fewer row rows rows free.1),
  )
