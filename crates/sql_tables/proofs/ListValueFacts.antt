-- Lists that are written as one text are read again.
use Rattle.std.proofs.Common.{◌≡◌, ◌≢◌, ℕ, ◌&&◌, Bool, true, false, cond, List, [], ◌∷◌, length, nat_le, refl, sym, ◌∙◌, ap, IsTrue, arith, All}
use Rattle.std.specs.Prelude.{map, Some, None, option_map, option_and_then}
use Rattle.std.specs.List.{AllByRecursion, join_with_byte, list_all, slice_split}
use Rattle.std.proofs.lemmas.Bool.{and_parts}
use Rattle.std.proofs.lemmas.Bool.Decides.{nat_tests}
use Rattle.std.proofs.lemmas.List.Elements.{All-cons, All-nil}
use Rattle.std.proofs.lemmas.List.Splits.{slice_split_at, slice_split_none}
use Rattle.mcs_reader.specs.Category.{is_category, is_category_byte}
use Rattle.mcs_reader.specs.Id.{IsId, is_id_byte, is_id_text, padded, text_of}
use Rattle.holddata.specs.Categories.{are_categories, ascends}
use Rattle.zone_lists.specs.Pattern.{is_pattern}
use Rattle.sql_tables.specs.Values.{categories_in, categories_of, ids_in, ids_of, ids_value, is_comma, parts_of, patterns_in, patterns_of, texts_in, texts_value}

-- ---- texts of bytes that are no commas

-- a text has something in it, and no comma
abbrev pub IsPart : List ℕ → Type 0
IsPart text = (text ≢ []) × All (λ b. is_comma b ≡ false) text

plain_bytes : (test : ℕ → Bool) → test 0x2C ≡ false → (text : List ℕ) → list_all test text ≡ true → All (λ b. is_comma b ≡ false) text
plain_bytes test comma [] h = All-nil _
plain_bytes test comma (b ∷ text) h =
    All-cons (λ x. is_comma x ≡ false) b text (by (is_comma b) refl) (plain_bytes test comma text (and_parts (test b) (list_all test text) h).1)
  where
    by : (c : Bool) → is_comma b ≡ c → is_comma b ≡ false
    by false is = is
    by true is =
        let same : b ≡ 0x2C = grind (arith, nat_tests) in
        let e : false ≡ true = sym comma ∙ ap test (sym same) ∙ (and_parts (test b) (list_all test text) h).0 in absurd (cc)

filled : (text : List ℕ) → nat_le 1 (length text) ≡ true → text ≢ []
filled [] h = λ e. cc
filled (b ∷ text) h = λ e. cc

pub category_part : (text : List ℕ) → is_category text ≡ true → IsPart text
category_part text h = (
  filled text (and_parts (nat_le 1 (length text)) (nat_le (length text) 64) (and_parts (nat_le 1 (length text) && nat_le (length text) 64) (list_all is_category_byte text) h).0).0,
  plain_bytes is_category_byte refl text (and_parts (nat_le 1 (length text) && nat_le (length text) 64) (list_all is_category_byte text) h).1,
)

pub id_part : (text : List ℕ) → is_id_text text ≡ true → IsPart text
id_part text h = (
  filled text (and_parts (nat_le 1 (length text)) (nat_le (length text) 7) (and_parts (nat_le 1 (length text) && nat_le (length text) 7) (list_all is_id_byte text) h).0).0,
  plain_bytes is_id_byte refl text (and_parts (nat_le 1 (length text) && nat_le (length text) 7) (list_all is_id_byte text) h).1,
)

-- ---- texts with commas between, and apart again

apart : (text : List ℕ) (texts : List (List ℕ)) → AllByRecursion IsPart (text ∷ texts) → slice_split is_comma (join_with_byte 0x2C (text ∷ texts)) ≡ text ∷ texts
apart text [] h = slice_split_none is_comma text h.0.1
apart text (next ∷ texts) h =
    slice_split_at is_comma text 0x2C (join_with_byte 0x2C (next ∷ texts)) h.0.1 refl
    ∙ ap (λ rest. text ∷ rest) (apart next texts h.1)

full : (text : List ℕ) (texts : List (List ℕ)) → text ≢ [] → parts_of (join_with_byte 0x2C (text ∷ texts)) ≡ slice_split is_comma (join_with_byte 0x2C (text ∷ texts))
full [] texts some = absurd (some refl)
full (b ∷ text) [] some = refl
full (b ∷ text) (next ∷ texts) some = refl

parts_again : (texts : List (List ℕ)) → AllByRecursion IsPart texts → parts_of (join_with_byte 0x2C texts) ≡ texts
parts_again [] h = refl
parts_again (text ∷ texts) h = full text texts h.0.0 ∙ apart text texts h

pub texts_again : (texts : List (List ℕ)) → AllByRecursion IsPart texts → texts_in (texts_value texts) ≡ Some texts
texts_again texts h = ap Some (parts_again texts h)

-- ---- ids, patterns and categories

all_parts : (test : List ℕ → Bool) → ((text : List ℕ) → test text ≡ true → IsPart text) → (texts : List (List ℕ)) → list_all test texts ≡ true → AllByRecursion IsPart texts
all_parts test part [] h = tt
all_parts test part (text ∷ texts) h =
    (part text (and_parts (test text) (list_all test texts) h).0, all_parts test part texts (and_parts (test text) (list_all test texts) h).1)

ids_parts : (ids : List (List ℕ)) → AllByRecursion IsId ids → AllByRecursion IsPart (map text_of ids)
ids_parts [] h = tt
ids_parts (id ∷ ids) h = (id_part (text_of id) h.0.0, ids_parts ids h.1)

ids_found : (ids : List (List ℕ)) → AllByRecursion IsId ids → ids_of (map text_of ids) ≡ Some ids
ids_found [] h = refl
ids_found (id ∷ ids) h =
    ap (λ o. option_and_then (λ x. option_map (λ xs. x ∷ xs) (ids_of (map text_of ids))) o) (ap (λ b. cond b (Some (padded (text_of id))) None) h.0.0 ∙ ap Some (sym h.0.1))
    ∙ ap (λ o. option_map (λ xs. id ∷ xs) o) (ids_found ids h.1)

pub ids_again : (ids : List (List ℕ)) → AllByRecursion IsId ids → ids_in (ids_value ids) ≡ Some ids
ids_again ids h = ap (option_and_then ids_of) (texts_again (map text_of ids) (ids_parts ids h)) ∙ ids_found ids h

patterns_found : (patterns : List (List ℕ)) → list_all is_pattern patterns ≡ true → patterns_of patterns ≡ Some patterns
patterns_found [] h = refl
patterns_found (text ∷ texts) h =
    ap (λ b. option_and_then (λ pattern. option_map (λ patterns. pattern ∷ patterns) (patterns_of texts)) (cond b (Some text) None)) (and_parts (is_pattern text) (list_all is_pattern texts) h).0
    ∙ ap (λ o. option_map (λ patterns. text ∷ patterns) o) (patterns_found texts (and_parts (is_pattern text) (list_all is_pattern texts) h).1)

pub patterns_again : (patterns : List (List ℕ)) → list_all is_pattern patterns ≡ true → patterns_in (texts_value patterns) ≡ Some patterns
patterns_again patterns h = ap (option_and_then patterns_of) (texts_again patterns (all_parts is_pattern part patterns h)) ∙ patterns_found patterns h
  where
    part : (text : List ℕ) → is_pattern text ≡ true → IsPart text
    part text is = category_part text (and_parts (is_category text) _ is).0

pub categories_again : (categories : List (List ℕ)) → IsTrue (are_categories categories) → categories_in (texts_value categories) ≡ Some categories
categories_again categories h =
    ap (option_and_then categories_of)
    (texts_again categories (all_parts is_category category_part categories (and_parts (list_all is_category categories) (ascends categories) h).0))
    ∙ ap (λ b. cond b (Some categories) None) h
