-- The ids that values and operands give, from one index on.
use Rattle.std.proofs.Common.{◌≡◌, ℕ, ◌+◌, ◌<◌, true, false, ◌||◌, List, ◌∷◌, ◌++◌, length, drop, get_or, refl, sym, ◌∙◌, ap, subst, add-one, drop-cons}
use Rattle.std.specs.BTreeSet.{insert_key}
use Rattle.std.specs.List.{filter_map, list_any}
use Rattle.std.proofs.lemmas.List.Elements.{filter_map-append}
use Rattle.std.proofs.lemmas.List.Folds.{list_any-append}
use Rattle.std.proofs.lemmas.List.Sums.{fold-append}
use Rattle.mcs_reader.specs.Id.{id_of}
use Rattle.mcs_reader.specs.Operand.{operand_text, operand_texts}
use Rattle.mcs_reader.specs.declared.statement.Operand.{Operand}
use Rattle.holddata.specs.Operands.{named_values, values_of}
use Rattle.catalogue.specs.Conditional.{cond_cmp, put_conds, required_under}
use Rattle.catalogue.specs.declared.conditional.CondNeed.{CondNeed}
use Rattle.catalogue.specs.Ids.{id_cmp, put_among}
use Rattle.catalogue.specs.Reading.{is_no_id}

-- what is put, and whether a value is no id, of all values of a list
pub record Puts (keys values : List (List ℕ)) (all_keys all_values : List (List ℕ)) : Type 0 where
  pub ids : put_among keys (filter_map id_of values) ≡ put_among all_keys (filter_map id_of all_values)
  pub bad : list_any is_no_id values ≡ list_any is_no_id all_values

pub puts_all : (keys values : List (List ℕ)) → Puts keys values keys values
puts_all keys values = record { ids = refl; bad = refl }

pub rest_at : {X : Type 0} (xs : List X) (i : ℕ) (x : X) → i < length xs → x ≡ get_or xs i x → drop i xs ≡ x ∷ drop (i + 1) xs
rest_at xs i x below at = rw (add-one, drop-cons xs i x, ← at) refl

-- some values in front are put
pub puts_front : (keys new front rest all_keys all_values : List (List ℕ)) → Puts keys (front ++ rest) all_keys all_values
    → new ≡ put_among keys (filter_map id_of front) → list_any is_no_id front ≡ false → Puts new rest all_keys all_values
puts_front keys new front rest all_keys all_values puts now good = record {
  ids =
      ap (λ ks. put_among ks (filter_map id_of rest)) now
      ∙ sym (ap (put_among keys) (filter_map-append id_of front rest) ∙ fold-append (insert_key id_cmp) keys (filter_map id_of front) (filter_map id_of rest))
      ∙ puts.ids;
  bad = sym (list_any-append is_no_id front rest ∙ ap (λ b. b || list_any is_no_id rest) good) ∙ puts.bad;
}

-- a value in front that is no id
pub bad_front : (keys front rest all_keys all_values : List (List ℕ)) → Puts keys (front ++ rest) all_keys all_values
    → list_any is_no_id front ≡ true → list_any is_no_id all_values ≡ true
bad_front keys front rest all_keys all_values puts bad =
    sym (sym (list_any-append is_no_id front rest ∙ ap (λ b. b || list_any is_no_id rest) bad) ∙ puts.bad)

-- ---- operands

-- what the operands from one index on put, of all operands
abbrev pub PutsFrom : List ℕ → List Operand → ℕ → List (List ℕ) → List (List ℕ) → Type 0
PutsFrom name operands i keys all_keys = Puts keys (values_of name (operand_texts (drop i operands))) all_keys (values_of name (operand_texts operands))

operands_rest : (name : List ℕ) (operands : List Operand) (i : ℕ) (operand : Operand) → i < length operands → operand ≡ get_or operands i operand
    → values_of name (operand_texts (drop i operands)) ≡ named_values name (operand_text operand) ++ values_of name (operand_texts (drop (i + 1) operands))
operands_rest name operands i operand below at = ap (λ os. values_of name (operand_texts os)) (rest_at operands i operand below at)

pub puts_operand : (name : List ℕ) (operands : List Operand) (i : ℕ) (operand : Operand) (keys new all_keys : List (List ℕ)) → i < length operands → operand ≡ get_or operands i operand
    → PutsFrom name operands i keys all_keys
    → new ≡ put_among keys (filter_map id_of (named_values name (operand_text operand))) → list_any is_no_id (named_values name (operand_text operand)) ≡ false
    → PutsFrom name operands (i + 1) new all_keys
puts_operand name operands i operand keys new all_keys below at puts now good =
    let all = values_of name (operand_texts operands) in
    puts_front keys new (named_values name (operand_text operand)) (values_of name (operand_texts (drop (i + 1) operands))) all_keys all
    (subst (λ values. Puts keys values all_keys all) (operands_rest name operands i operand below at) puts) now good

-- an operand with a value that is no id
bad_operand : (name : List ℕ) (operands : List Operand) (i : ℕ) (operand : Operand) (keys all_keys : List (List ℕ)) → i < length operands → operand ≡ get_or operands i operand
    → PutsFrom name operands i keys all_keys
    → list_any is_no_id (named_values name (operand_text operand)) ≡ true → list_any is_no_id (values_of name (operand_texts operands)) ≡ true
bad_operand name operands i operand keys all_keys below at puts bad =
    let all = values_of name (operand_texts operands) in
    bad_front keys (named_values name (operand_text operand)) (values_of name (operand_texts (drop (i + 1) operands))) all_keys all
    (subst (λ values. Puts keys values all_keys all) (operands_rest name operands i operand below at) puts) bad

-- ---- an `++IF` statement

-- one more requisite under a condition is put
pub put_one : (fmid : List ℕ) (needs : List (List ℕ)) (i : ℕ) (need : List ℕ) (conds new : List CondNeed) → i < length needs → need ≡ get_or needs i need
    → new ≡ insert_key cond_cmp conds (record { fmid = fmid; need = need })
    → put_conds new (required_under fmid (drop (i + 1) needs)) ≡ put_conds conds (required_under fmid (drop i needs))
put_one fmid needs i need conds new below at now =
    ap (λ c. put_conds c (required_under fmid (drop (i + 1) needs))) now
    ∙ sym (ap (λ l. put_conds conds (required_under fmid l)) (rest_at needs i need below at))
