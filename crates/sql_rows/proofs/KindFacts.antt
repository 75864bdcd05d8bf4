-- How the numbers of holds' kinds are compared with what stands in their column.
use Rattle.std.proofs.Common.{◌≡◌, ℕ, ℤ, pos, negsuc, Bool, true, false, cond, [], ◌∷◌, ◌==◌, ◌&&◌, refl, sym, ◌∙◌, ap, ap₂, subst, arith, int_cmp}
use Rattle.std.specs.Prelude.{codes, drop, None, Some, option_map, unwrap_or}
use Rattle.std.specs.Ordering.{is_eq}
use Rattle.std.proofs.Math.Bool.{and-true}
use Rattle.std.proofs.lemmas.Bool.{and_parts, eqb-true, false≢true}
use Rattle.std.proofs.lemmas.Bool.Decides.{nat_tests}
use Rattle.holddata.specs.HoldKey.{is_same_kind, kind_order}
use Rattle.holddata.specs.declared.key.HoldKey.{HoldKey}
use Rattle.holddata.specs.declared.key.Kind.{Kind}
use Rattle.holddata.specs.declared.key.Kind.TheVariants.{ErrorHold, SystemHold, UserHold, FixcatHold}
use Rattle.mcs_reader.specs.Id.{IsId}
use Rattle.sqlite.specs.Collation.TheVariants.{Binary}
use Rattle.sqlite.specs.Ops.{binary, from_truth, is_true}
use Rattle.sqlite.specs.Order.{Row, column, value_cmp}
use Rattle.sqlite.specs.declared.types.Value.{Value}
use Rattle.sqlite.specs.declared.types.Value.TheVariants.{Null, Int, Real, Text, Blob}
use Rattle.sqlite_schema.specs.Rules.{are_typed, suits}
use Rattle.sqlite_sql.specs.declared.ops.BinaryOp.TheVariants.{Compare}
use Rattle.sqlite_sql.specs.declared.ops.CompareOp.TheVariants.{Eq}
use Rattle.sqlite_value.proofs.OrderLemmas.{value_cmp-Int}
use Rattle.sql_texts.specs.Found.{passes}
use Rattle.sql_texts.specs.Reads.{is_given}
use Rattle.sql_texts.specs.Schema as schema
use Rattle.sql_texts.proofs.AnswerFacts.{truth_again}
use Rattle.sql_tables.proofs.TreeFacts.{column_after}
use Rattle.sql_tables.specs.Changes.{is_kind, is_under}
use Rattle.sql_tables.specs.Values.{hold_kind_in, hold_kind_value, id_value}
use Rattle.sql_tables.proofs.TextFacts.{text_given}

-- ---- which kind a number is

abbrev IsSo : Kind → ℕ → Type 0
IsSo kind m = (m == kind_order kind) ≡ unwrap_or (option_map (λ found. is_same_kind found kind) (hold_kind_in (Int (pos m)))) false

at_0 : (kind : Kind) → IsSo kind 0
at_0 = elim [ ErrorHold ↦ refl | SystemHold ↦ refl | UserHold ↦ refl | FixcatHold ↦ refl ]

at_1 : (kind : Kind) → IsSo kind 1
at_1 = elim [ ErrorHold ↦ refl | SystemHold ↦ refl | UserHold ↦ refl | FixcatHold ↦ refl ]

at_2 : (kind : Kind) → IsSo kind 2
at_2 = elim [ ErrorHold ↦ refl | SystemHold ↦ refl | UserHold ↦ refl | FixcatHold ↦ refl ]

at_3 : (kind : Kind) → IsSo kind 3
at_3 = elim [ ErrorHold ↦ refl | SystemHold ↦ refl | UserHold ↦ refl | FixcatHold ↦ refl ]

elsewhere : (kind : Kind) (m : ℕ) → (m == 0) ≡ false → (m == 1) ≡ false → (m == 2) ≡ false → (m == 3) ≡ false → (m == kind_order kind) ≡ false
elsewhere ErrorHold m a b c d = a
elsewhere SystemHold m a b c d = b
elsewhere UserHold m a b c d = c
elsewhere FixcatHold m a b c d = d

number_kind : (kind : Kind) (m : ℕ) → IsSo kind m
number_kind kind m = by (m == 0) (m == 1) (m == 2) (m == 3) refl refl refl refl
  where
    by : (a b c d : Bool) → (m == 0) ≡ a → (m == 1) ≡ b → (m == 2) ≡ c → (m == 3) ≡ d → IsSo kind m
    by true b c d e f g h = subst (IsSo kind) (sym (eqb-true m 0 e)) (at_0 kind)
    by false true c d e f g h = subst (IsSo kind) (sym (eqb-true m 1 f)) (at_1 kind)
    by false false true d e f g h = subst (IsSo kind) (sym (eqb-true m 2 g)) (at_2 kind)
    by false false false true e f g h = subst (IsSo kind) (sym (eqb-true m 3 h)) (at_3 kind)
    by false false false false e f g h =
        elsewhere kind m e f g h
        ∙ sym (ap (λ found. unwrap_or (option_map (λ it. is_same_kind it kind) found) false)
        (λ i. cond (e i) (Some ErrorHold) (cond (f i) (Some SystemHold) (cond (g i) (Some UserHold) (cond (h i) (Some FixcatHold) None)))))

-- ---- how the database compares

abbrev IsNoReal : Value → Type 0
IsNoReal (Real x) = ⊥
IsNoReal Null = Unit {0}
IsNoReal (Int n) = Unit {0}
IsNoReal (Text t) = Unit {0}
IsNoReal (Blob b) = Unit {0}

one_number : (m p : ℕ) → is_eq (int_cmp (pos m) (pos p)) ≡ (m == p)
one_number m p = grind (arith, nat_tests)

whole_kind : (kind : Kind) (n : ℤ) → is_eq (int_cmp n (pos (kind_order kind))) ≡ is_kind kind (Int n)
whole_kind kind (pos m) = one_number m (kind_order kind) ∙ number_kind kind m
whole_kind kind (negsuc m) = refl

number_compared : (kind : Kind) (n : ℤ) → is_true (binary (Compare Eq Binary) (Int n) (hold_kind_value kind)) ≡ is_kind kind (Int n)
unfolding binary
number_compared kind n = ap (λ o. is_true (from_truth (Some (is_eq o)))) (value_cmp-Int n (pos (kind_order kind))) ∙ truth_again _ ∙ whole_kind kind n

kind_compared : (kind : Kind) (value : Value) → IsNoReal value → is_true (binary (Compare Eq Binary) value (hold_kind_value kind)) ≡ is_kind kind value
unfolding binary value_cmp
kind_compared kind Null typed = refl
kind_compared kind (Int n) typed = number_compared kind n
kind_compared kind (Real x) typed = absurd typed
kind_compared kind (Text t) typed = refl
kind_compared kind (Blob b) typed = refl

-- ---- what the table keeps to

second_typed : (cols : Row) → are_typed None 0 schema.hold_row.columns cols ≡ true → IsNoReal (column cols 1)
second_typed [] typed = tt
second_typed (a ∷ []) typed = tt
second_typed (a ∷ Null ∷ rest) typed = tt
second_typed (a ∷ Int n ∷ rest) typed = tt
second_typed (a ∷ Text t ∷ rest) typed = tt
second_typed (a ∷ Blob b ∷ rest) typed = tt
second_typed (a ∷ Real x ∷ rest) typed =
    let later = and_parts (suits (schema.text_column (codes "sysmod")) a) (are_typed None 1 (drop 1 schema.hold_row.columns) (Real x ∷ rest)) typed in
    absurd (false≢true (and_parts false (are_typed None 2 (drop 2 schema.hold_row.columns) rest) later.1).0)

-- ---- which holds a deletion finds

pub key_given : (key : HoldKey) → IsId key.sysmod → IsId key.reason → (row : Row) → are_typed None 0 schema.hold_row.columns (drop 1 row) ≡ true
    → passes (id_value key.sysmod ∷ hold_kind_value key.kind ∷ id_value key.reason ∷ []) (is_given 1 0 ∷ is_given 2 1 ∷ is_given 3 2 ∷ []) row ≡ is_under key (drop 1 row)
key_given key is_sysmod is_reason row typed =
    ap₂ ◌&&◌ (text_given key.sysmod is_sysmod row 0) (ap₂ ◌&&◌
    (ap (λ v. is_true (binary (Compare Eq Binary) v (hold_kind_value key.kind))) (sym (column_after row 1)) ∙ kind_compared key.kind (column (drop 1 row) 1) (second_typed (drop 1 row) typed))
    (and-true _ ∙ text_given key.reason is_reason row 2))
