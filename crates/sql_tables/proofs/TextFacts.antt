-- How the texts that name ids are compared with what stands in a column.
use Rattle.std.proofs.Common.{◌≡◌, ℕ, suc, [], ◌∷◌, ap₂, ◌&&◌, Bool, true, false, cond, List, refl, sym, ◌∙◌, ap, subst}
use Rattle.std.specs.Prelude.{drop, Some, None, option_map, unwrap_or}
use Rattle.std.specs.Str.{bytes_eq}
use Rattle.std.proofs.Math.Bool.{and-true}
use Rattle.std.proofs.lemmas.Bool.{both_ways, false_from_ne_true}
use Rattle.lemmas.proofs.TestFacts.{same_test}
use Rattle.mcs_reader.specs.Id.{IsId, is_id_text, padded, text_of}
use Rattle.mcs_reader.proofs.IdFacts.{padded_over_blanks, text_over_blanks}
use Rattle.catalogue.proofs.IdFacts.{itself, one_id}
use Rattle.sqlite.specs.Collation.TheVariants.{Binary}
use Rattle.sqlite.specs.Ops.{binary, is_true}
use Rattle.sqlite.specs.Order.{Row, column}
use Rattle.sqlite.specs.declared.types.Value.{Value}
use Rattle.sqlite.specs.declared.types.Value.TheVariants.{Null, Int, Real, Text, Blob}
use Rattle.sqlite_sql.specs.declared.ops.BinaryOp.TheVariants.{Compare}
use Rattle.sqlite_sql.specs.declared.ops.CompareOp.TheVariants.{Eq}
use Rattle.sql_texts.proofs.AnswerFacts.{same_text}
use Rattle.sql_texts.specs.Found.{is_text, passes}
use Rattle.sql_texts.specs.Reads.{is_given}
use Rattle.sql_tables.proofs.TreeFacts.{column_after}
use Rattle.sql_tables.specs.Stored.{is_named, is_of, is_of_both}
use Rattle.sql_tables.specs.Values.{id_value}

pub text_again : (t : List ℕ) → is_id_text t ≡ true → text_of (padded t) ≡ t
text_again t is = ap text_of (sym (padded_over_blanks t)) ∙ text_over_blanks t t is refl

-- a value is the text of an id just if it names the id
pub text_named : (id : List ℕ) → IsId id → (value : Value) → is_text (text_of id) value ≡ is_named id value
text_named id is Null = refl
text_named id is (Int n) = refl
text_named id is (Real x) = refl
text_named id is (Blob b) = refl
text_named id is (Text t) = by (is_id_text t) refl
  where
    there : bytes_eq t (text_of id) ≡ true → bytes_eq (padded t) id ≡ true
    there same = subst (λ x. bytes_eq x id ≡ true) (sym (ap padded (one_id t (text_of id) same) ∙ sym is.1)) (itself id)

    back : is_id_text t ≡ true → bytes_eq (padded t) id ≡ true → bytes_eq t (text_of id) ≡ true
    back text same = subst (λ x. bytes_eq x (text_of id) ≡ true) (ap text_of (sym (one_id (padded t) id same)) ∙ text_again t text) (itself (text_of id))

    never : is_id_text t ≡ false → bytes_eq t (text_of id) ≡ true → ⊥
    never none same = absurd (both_ways _ none (ap is_id_text (one_id t (text_of id) same) ∙ is.0))

    by : (b : Bool) → is_id_text t ≡ b → bytes_eq t (text_of id) ≡ unwrap_or (option_map (λ found. bytes_eq found id) (cond b (Some (padded t)) None)) false
    by true text = same_test (bytes_eq t (text_of id)) (bytes_eq (padded t) id) there (back text)
    by false none = false_from_ne_true _ (never none)

-- a column is the text of an id just if it names the id
pub text_given : (id : List ℕ) → IsId id → (row : Row) (index : ℕ) → is_true (binary (Compare Eq Binary) (column row (suc index)) (Text (text_of id))) ≡ is_named id (column (drop 1 row) index)
text_given id is row index = same_text (column row (suc index)) (text_of id) ∙ text_named id is (column row (suc index)) ∙ ap (is_named id) (sym (column_after row index))

-- ---- which rows are found

-- those with a text in a column
pub one_given : (index : ℕ) (text : List ℕ) (row : Row) → passes (Text text ∷ []) (is_given index 0 ∷ []) row ≡ is_text text (column row index)
one_given index text row = and-true _ ∙ same_text (column row index) text

-- those of an id
pub of_given : (id : List ℕ) → IsId id → (row : Row) → passes (id_value id ∷ []) (is_given 1 0 ∷ []) row ≡ is_of id (drop 1 row)
of_given id is row = and-true _ ∙ text_given id is row 0

-- those of a client's zone
pub both_given : (client zone : List ℕ) → IsId client → IsId zone → (row : Row)
    → passes (id_value client ∷ id_value zone ∷ []) (is_given 1 0 ∷ is_given 2 1 ∷ []) row ≡ is_of_both client zone (drop 1 row)
both_given client zone is_client is_zone row = ap₂ ◌&&◌ (text_given client is_client row 0) (and-true _ ∙ text_given zone is_zone row 1)
