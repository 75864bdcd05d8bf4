-- Who comes and who goes where a store gets other callers.
use Rattle.std.proofs.Common.{◌≡◌, ◌<◌, ◌≤◌, ◌-◌, ◌∙◌, ◌&&◌, ◌||◌, ℕ, suc, Bool, true, false, cond, List, [], ◌∷◌, Option, Some, ap, arith, drop, get_or, length, map, refl, subst, sym}
use Rattle.std.specs.Prelude.{filter, find, is_some, not}
use Rattle.std.specs.BTreeMap.{is_at}
use Rattle.std.specs.Cmp.Lexicographic.{slice_cmp}
use Rattle.std.specs.List.{count_by, list_any}
use Rattle.std.specs.Map.{lookup}
use Rattle.std.specs.Option.{option_map, unwrap_or}
use Rattle.std.specs.Ordering.{nat_cmp}
use Rattle.std.specs.Str.{bytes_eq}
use Rattle.std.proofs.Math.Seq.{drop-cons}
use Rattle.std.proofs.lemmas.List.Folds.{list_any-append}
use Rattle.std.proofs.lemmas.Map.Text.{is_eq-slice_cmp}
use Rattle.std.proofs.Math.Bool.{and-false}
use Rattle.catalogue.specs.Ids.{same_id}
use Rattle.catalogue.proofs.IdFacts.{one_id}
use Rattle.bureau_store.specs.Kept.{KnowsNames}
use Rattle.bureau_store.specs.SetCallers.{comes_or_goes, has_name, has_new_token, is_only_in, names_only_in, names_that_change}
use Rattle.bureau_store.specs.declared.caller.CallerRow.{CallerRow}

-- ---- the map of names

token_first : (b : Bool) (row : CallerRow) (rest : Option CallerRow) → cond b (Some row.token) (option_map (λ row. row.token) rest) ≡ option_map (λ row. row.token) (cond b (Some row) rest)
token_first true row rest = refl
token_first false row rest = refl

pub names_more : (entries entries2 : List (List ℕ × List ℕ)) (rows : List CallerRow) (row : CallerRow) → KnowsNames entries rows
    → (token : List ℕ) → token ≡ row.token
    → ((name : List ℕ) → lookup (is_at (slice_cmp nat_cmp name)) entries2 ≡ cond (is_at (slice_cmp nat_cmp row.name) name) (Some token) (lookup (is_at (slice_cmp nat_cmp name)) entries))
    → KnowsNames entries2 (row ∷ rows)
names_more entries entries2 rows row knows token is put name =
    put name
    ∙ ap (λ t. cond (is_at (slice_cmp nat_cmp row.name) name) (Some t) (lookup (is_at (slice_cmp nat_cmp name)) entries)) is
    ∙ ap (λ b. cond b (Some row.token) (lookup (is_at (slice_cmp nat_cmp name)) entries)) (is_eq-slice_cmp row.name name)
    ∙ ap (λ rest. cond (bytes_eq row.name name) (Some row.token) rest) (knows name)
    ∙ token_first (bytes_eq row.name name) row (find (λ row. bytes_eq row.name name) rows)

-- the callers from one row on are known, where that row and those after it are
pub names_from : (entries : List (List ℕ × List ℕ)) (rows : List CallerRow) (left : ℕ) (row : CallerRow)
    → 0 < left → left ≤ length rows → row ≡ get_or rows (left - 1) row → KnowsNames entries (row ∷ drop left rows) → KnowsNames entries (drop (left - 1) rows)
names_from entries rows left row some within is knows =
    let at : left - 1 < length rows = omega arith in
    let next : suc (left - 1) ≡ left = omega arith in
    let Known : List CallerRow → Type 0 = λ rs. KnowsNames entries rs in
    let cut : drop (left - 1) rows ≡ row ∷ drop left rows =
    drop-cons rows (left - 1) row at ∙ ap (λ r. r ∷ drop (suc (left - 1)) rows) (sym is) ∙ ap (λ n. row ∷ drop n rows) next in
    subst Known (sym cut) knows

-- what a map says of names is what the rows say
module _ (entries : List (List ℕ × List ℕ)) (others : List CallerRow) (knows : KnowsNames entries others) where
  pub names_known : (rows : List CallerRow)
      → map (λ (row : CallerRow). row.name) (filter (λ row. not (is_some (lookup (is_at (slice_cmp nat_cmp row.name)) entries))) rows) ≡ names_only_in others rows
  names_known rows = ap (λ (test : CallerRow → Bool). map (λ (row : CallerRow). row.name) (filter test rows)) (λ i row. not (is_some (knows row.name i)))

  pub tokens_known : (rows : List CallerRow)
      → count_by (λ row. unwrap_or (option_map (λ token. not (bytes_eq token row.token)) (lookup (is_at (slice_cmp nat_cmp row.name)) entries)) false) rows ≡ count_by (has_new_token others) rows
  tokens_known rows = ap (λ (test : CallerRow → Bool). count_by test rows) (λ i row. unwrap_or (option_map (λ token. not (bytes_eq token row.token)) (knows row.name i)) false)

-- ---- the names that change

name_first : (b : Bool) (row : CallerRow) (rest : Option CallerRow) → is_some (option_map (λ (row : CallerRow). row.token) (cond b (Some row) rest)) ≡ (b || is_some (option_map (λ (row : CallerRow). row.token) rest))
name_first true row rest = refl
name_first false row rest = refl

pub name_more : (row : CallerRow) (rows : List CallerRow) (name : List ℕ) → has_name (row ∷ rows) name ≡ (same_id row.name name || has_name rows name)
name_more row rows name = name_first (same_id row.name name) row (find (λ row. bytes_eq row.name name) rows)

any_only : (others rows : List CallerRow) (name : List ℕ) → list_any (λ one. same_id one name) (names_only_in others rows) ≡ is_only_in others rows name
any_only others [] name = refl
any_only others (row ∷ rows) name =
    by (not (has_name others row.name)) refl (same_id row.name name) refl (any_only others rows name) ∙ ap (λ b. b && not (has_name others name)) (sym (name_more row rows name))
  where
    kept : List CallerRow
    kept = filter (λ row. not (has_name others row.name)) rows

    by : (new : Bool) → not (has_name others row.name) ≡ new → (same : Bool) → same_id row.name name ≡ same
        → list_any (λ one. same_id one name) (map (λ (row : CallerRow). row.name) kept) ≡ is_only_in others rows name
        → list_any (λ one. same_id one name) (map (λ (row : CallerRow). row.name) (cond new (row ∷ kept) kept)) ≡ ((same || has_name rows name) && not (has_name others name))
    by true is true at later =
        ap (λ b. b || list_any (λ one. same_id one name) (map (λ (row : CallerRow). row.name) kept)) at ∙ sym is ∙ ap (λ n. not (has_name others n)) (one_id row.name name at)
    by true is false at later = ap (λ b. b || list_any (λ one. same_id one name) (map (λ (row : CallerRow). row.name) kept)) at ∙ later
    by false is true at later =
        let none : not (has_name others name) ≡ false = ap (λ n. not (has_name others n)) (sym (one_id row.name name at)) ∙ is in
        later ∙ ap (λ b. has_name rows name && b) none ∙ and-false (has_name rows name) ∙ sym none
    by false is false at later = later

-- the names that are listed are those that come or go
pub any_that_changes : (old new : List CallerRow) (name : List ℕ) → list_any (λ one. same_id one name) (names_that_change old new) ≡ comes_or_goes old new name
any_that_changes old new name =
    list_any-append (λ one. same_id one name) (names_only_in old new) (names_only_in new old)
    ∙ ap (λ b. b || list_any (λ one. same_id one name) (names_only_in new old)) (any_only old new name)
    ∙ ap (λ b. is_only_in old new name || b) (any_only new old name)
