-- Categories with commas between, and apart again.
use Rattle.std.proofs.Common.{◌≡◌, ℕ, ◌&&◌, Bool, true, false, List, [], ◌∷◌, length, refl, sym, ◌∙◌, ap, nat_le, IsTrue, arith, All}
use Rattle.std.proofs.lemmas.Bool.{and_parts}
use Rattle.std.proofs.lemmas.Bool.Decides.{nat_tests}
use Rattle.std.specs.List.{join_with_byte, list_all, slice_split}
use Rattle.std.proofs.lemmas.List.Elements.{All-cons, All-nil}
use Rattle.std.proofs.lemmas.List.Splits.{join_with_byte-slice_split, slice_split_at, slice_split_none}
use Rattle.mcs_reader.specs.Category.{is_category, is_category_byte}
use Rattle.holddata.specs.Categories.{are_categories, ascends}
use Rattle.holddata.specs.Joined.{between_commas, is_comma}

-- ---- categories have no comma, and are not empty

no_comma : (b : ℕ) → is_category_byte b ≡ true → is_comma b ≡ false
no_comma b h = by (is_comma b) refl
  where
    by : (c : Bool) → is_comma b ≡ c → is_comma b ≡ false
    by false is = is
    by true is =
        let comma : b ≡ 44 = grind (arith, nat_tests) in
        let e : false ≡ true = ap is_category_byte (sym comma) ∙ h in absurd (cc)

no_commas : (text : List ℕ) → list_all is_category_byte text ≡ true → All (λ b. is_comma b ≡ false) text
no_commas [] h = All-nil _
no_commas (b ∷ text) h =
    All-cons (λ x. is_comma x ≡ false) b text (no_comma b ((and_parts (is_category_byte b) (list_all is_category_byte text) h).0))
    (no_commas text ((and_parts (is_category_byte b) (list_all is_category_byte text) h).1))

plain : (text : List ℕ) → is_category text ≡ true → All (λ b. is_comma b ≡ false) text
plain text h = no_commas text ((and_parts (nat_le 1 (length text) && nat_le (length text) 64) (list_all is_category_byte text) h).1)

-- ---- one category, and more

pub one_between : (text : List ℕ) → IsTrue (is_category text) → between_commas text ≡ text ∷ []
one_between [] h = cc
one_between (b ∷ text) h = slice_split_none is_comma (b ∷ text) (plain (b ∷ text) h)

parts : (text : List ℕ) (texts : List (List ℕ)) → list_all is_category (text ∷ texts) ≡ true → slice_split is_comma (join_with_byte 44 (text ∷ texts)) ≡ text ∷ texts
parts text [] h = slice_split_none is_comma text (plain text ((and_parts (is_category text) true h).0))
parts text (next ∷ texts) h =
    slice_split_at is_comma text 44 (join_with_byte 44 (next ∷ texts)) (plain text ((and_parts (is_category text) (list_all is_category (next ∷ texts)) h).0)) refl
    ∙ ap (λ rest. text ∷ rest) (parts next texts ((and_parts (is_category text) (list_all is_category (next ∷ texts)) h).1))

filled : (text : List ℕ) (texts : List (List ℕ)) → is_category text ≡ true → between_commas (join_with_byte 44 (text ∷ texts)) ≡ slice_split is_comma (join_with_byte 44 (text ∷ texts))
filled [] texts h = cc
filled (b ∷ text) [] h = refl
filled (b ∷ text) (next ∷ texts) h = refl

pub all_between : (texts : List (List ℕ)) → IsTrue (are_categories texts) → between_commas (join_with_byte 44 texts) ≡ texts
all_between [] h = refl
all_between (text ∷ texts) h =
    let all = (and_parts (list_all is_category (text ∷ texts)) (ascends (text ∷ texts)) h).0 in
    filled text texts ((and_parts (is_category text) (list_all is_category texts) all).0) ∙ parts text texts all

pub joined_again : (bytes : List ℕ) → join_with_byte 44 (between_commas bytes) ≡ bytes
joined_again [] = refl
joined_again (b ∷ bytes) = join_with_byte-slice_split 44 (b ∷ bytes)
