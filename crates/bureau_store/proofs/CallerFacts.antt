-- The callers that came, and what keeps them.
use Rattle.std.proofs.Common.{◌≡◌, ℕ, ◌∙◌, ◌||◌, Bool, true, false, cond, List, [], ◌∷◌, ◌++◌, map, Some, Result, Ok, inl, inr, refl, sym, ap}
use Rattle.std.specs.Option.{is_some}
use Rattle.std.specs.BTreeMap.{insert_entry, is_at}
use Rattle.std.specs.BTreeSet.{insert_key}
use Rattle.std.specs.Cmp.Lexicographic.{slice_cmp}
use Rattle.std.specs.List.{list_any}
use Rattle.std.specs.List.Sorted.{IsStrictlySortedBy}
use Rattle.std.specs.Map.{keys_of, lookup}
use Rattle.std.specs.Ordering.{is_eq, match_ordering, nat_cmp}
use Rattle.std.specs.Str.{bytes_eq}
use Rattle.std.specs.declared.cmp.Ordering.{Ordering}
use Rattle.std.specs.declared.cmp.Ordering.TheVariants.{Less, Equal, Greater}
use Rattle.std.proofs.Math.Bool.{or-false, or-true}
use Rattle.std.proofs.lemmas.Bool.{cases_Bool as tested}
use Rattle.std.proofs.lemmas.Cmp.{nat_list_eq_equiv}
use Rattle.std.proofs.lemmas.List.Folds.{list_any-append}
use Rattle.std.proofs.lemmas.Map.Text.{is_eq-slice_cmp}
use Rattle.std.proofs.lemmas.Slice.Eq.{bytes_eq-Decides}
use Rattle.lemmas.proofs.TestFacts.{or_swap}
use Rattle.zone_lists.specs.Lists.{Numbered, own_fault}
use Rattle.zone_lists.specs.declared.fault.ListFault.{ListFault}
use Rattle.zone_lists.specs.declared.fault.ListFault.TheVariants.{Repeated}
use Rattle.zone_lists.proofs.ListFacts.{in_order_more}
use Rattle.bureau_store.specs.Callers.{caller_list, comes_again, row_order}
use Rattle.bureau_store.specs.Gathered.{HasCallers, has_token, row_of}
use Rattle.bureau_store.specs.declared.caller.CallerRow.{CallerRow}

-- ---- the map of names

row_put : (e : List ℕ × List ℕ) (es : List (List ℕ × List ℕ)) (row : CallerRow) (o : Ordering) → is_some (cond (is_eq o) (Some e.1) (lookup (is_at (slice_cmp nat_cmp row.name)) es)) ≡ false
    → (is_some (lookup (is_at (slice_cmp nat_cmp row.name)) es) ≡ false → map row_of (insert_entry (slice_cmp nat_cmp) es row.name row.token) ≡ insert_key row_order (map row_of es) row)
    → map row_of (match_ordering o ((row.name, row.token) ∷ e ∷ es) ((e.0, row.token) ∷ es) (e ∷ insert_entry (slice_cmp nat_cmp) es row.name row.token))
    ≡ match_ordering o (row ∷ row_of e ∷ map row_of es) (row_of e ∷ map row_of es) (row_of e ∷ insert_key row_order (map row_of es) row)
row_put e es row Less new later = refl
row_put e es row Equal new later = absurd (cc new)
row_put e es row Greater new later = ap (λ rows. row_of e ∷ rows) (later new)

-- a row with a new name is put among the rows where it belongs
row_put_more : (names : List (List ℕ × List ℕ)) (row : CallerRow) → is_some (lookup (is_at (slice_cmp nat_cmp row.name)) names) ≡ false
    → map row_of (insert_entry (slice_cmp nat_cmp) names row.name row.token) ≡ insert_key row_order (map row_of names) row
row_put_more [] row new = refl
row_put_more (e ∷ es) row new = row_put e es row (slice_cmp nat_cmp row.name e.0) new (λ h. row_put_more es row h)

-- rows ascend where a map's keys do
pub rows_ascend : (entries : List (List ℕ × List ℕ)) (rows : List CallerRow) → rows ≡ map row_of entries → IsStrictlySortedBy (slice_cmp nat_cmp) (keys_of entries)
    → IsStrictlySortedBy (slice_cmp nat_cmp) (map (λ row. row.name) rows)
rows_ascend entries rows same ascending = rw (same, keys_of_rows entries) ascending
  where
    keys_of_rows : (es : List (List ℕ × List ℕ)) → map (λ row. row.name) (map row_of es) ≡ keys_of es
    keys_of_rows [] = refl
    keys_of_rows (e ∷ es) = ap (λ names. e.0 ∷ names) (keys_of_rows es)

-- ---- tests of lists

or_in_turn : (a b c d : Bool) → ((a || b) || (c || d)) ≡ ((a || c) || (b || d))
or_in_turn true b c d = refl
or_in_turn false true true d = refl
or_in_turn false true false d = refl
or_in_turn false false c d = refl

or_turned : (a b : Bool) → (a || b) ≡ (b || a)
or_turned true b = sym (or-true b)
or_turned false b = sym (or-false b)

any_or : {X : Type 0} (p q : X → Bool) (xs : List X) → list_any (λ x. p x || q x) xs ≡ (list_any p xs || list_any q xs)
any_or p q [] = refl
any_or p q (x ∷ xs) = ap (λ b. (p x || q x) || b) (any_or p q xs) ∙ or_in_turn (p x) (q x) (list_any p xs) (list_any q xs)

any_more : {X : Type 0} (p : X → Bool) (xs : List X) (x : X) → list_any p (xs ++ x ∷ []) ≡ (list_any p xs || p x)
any_more p xs x = list_any-append p xs (x ∷ []) ∙ ap (λ b. list_any p xs || b) (or-false (p x))

-- whether a set has what a test asks for, after one more key
module _ {Key : Type 0} (order : Key → Key → Ordering) (test : Key → Bool) (alike : (a b : Key) → order a b ≡ Equal → test a ≡ test b) where
  pub any_put : (keys : List Key) (key : Key) → list_any test (insert_key order keys key) ≡ (test key || list_any test keys)
  any_put [] key = refl
  any_put (x ∷ xs) key =
      elim (order key x) as (λ o. order key x ≡ o → list_any test (match_ordering o (key ∷ x ∷ xs) (x ∷ xs) (x ∷ insert_key order xs key)) ≡ (test key || (test x || list_any test xs))) [
        | Less ↦ λ e. refl
        | Equal ↦ λ e. rw (alike key x e) (twice (test x) (list_any test xs))
        | Greater ↦ λ e. ap (λ b. test x || b) (any_put xs key) ∙ or_swap (test x) (test key) (list_any test xs)
      ] refl
    where
      twice : (a b : Bool) → (a || b) ≡ (a || (a || b))
      twice true b = refl
      twice false b = refl

-- one more token in a set of tokens
pub token_put : {Text : Type 0} (text_of : Text → List ℕ) (keys : List Text) (key : Text) (token : List ℕ)
    → has_token text_of (insert_key (λ a b. slice_cmp nat_cmp (text_of a) (text_of b)) keys key) token ≡ (bytes_eq token (text_of key) || has_token text_of keys token)
token_put text_of keys key token =
    any_put (λ a b. slice_cmp nat_cmp (text_of a) (text_of b)) (λ text. is_at (slice_cmp nat_cmp token) (text_of text)) (
    λ a b at. ap (λ text. is_at (slice_cmp nat_cmp token) text) ((bytes_eq-Decides (text_of a) (text_of b)).0 (sym (is_eq-slice_cmp (text_of a) (text_of b)) ∙ ap is_eq at))
    ) keys key
    ∙ ap (λ b. b || has_token text_of keys token) (is_eq-slice_cmp token (text_of key))

-- ---- one more caller

at_same : (row : CallerRow) (name : List ℕ) → is_at (slice_cmp nat_cmp row.name) name ≡ bytes_eq name row.name
at_same row name = is_eq-slice_cmp row.name name ∙ nat_list_eq_equiv.symm row.name name

named_more : (came : List CallerRow) (names names2 : List (List ℕ × List ℕ)) (row : CallerRow)
    → ((name : List ℕ) → list_any (λ row. bytes_eq name row.name) came ≡ is_some (lookup (is_at (slice_cmp nat_cmp name)) names))
    → ((name : List ℕ) → lookup (is_at (slice_cmp nat_cmp name)) names2 ≡ cond (is_at (slice_cmp nat_cmp row.name) name) (Some row.token) (lookup (is_at (slice_cmp nat_cmp name)) names))
    → (name : List ℕ) → list_any (λ row. bytes_eq name row.name) (came ++ row ∷ []) ≡ is_some (lookup (is_at (slice_cmp nat_cmp name)) names2)
named_more came names names2 row agrees updates name =
    rw (any_more (λ row. bytes_eq name row.name) came row, updates name, at_same row name) (
    elim (tested (bytes_eq name row.name)) [
      | inl matching ↦ rw matching (or-true _)
      | inr other ↦ rw other (or-false _ ∙ agrees name)
    ]
    )

tokens_more : {Text : Type 0} (text_of : Text → List ℕ) (came : List CallerRow) (tokens tokens2 : List Text) (row : CallerRow)
    → ((token : List ℕ) → list_any (λ row. bytes_eq token row.token) came ≡ has_token text_of tokens token)
    → ((token : List ℕ) → has_token text_of tokens2 token ≡ (bytes_eq token row.token || has_token text_of tokens token))
    → (token : List ℕ) → list_any (λ row. bytes_eq token row.token) (came ++ row ∷ []) ≡ has_token text_of tokens2 token
tokens_more text_of came tokens tokens2 row agrees added token =
    any_more (λ row. bytes_eq token row.token) came row
    ∙ ap (λ b. b || bytes_eq token row.token) (agrees token)
    ∙ or_turned (has_token text_of tokens token) (bytes_eq token row.token)
    ∙ sym (added token)

pub caller_added : {Text : Type 0} (text_of : Text → List ℕ) (came : List CallerRow) (names names2 : List (List ℕ × List ℕ)) (tokens tokens2 : List Text) (row : CallerRow)
    → HasCallers text_of names tokens came
    → names2 ≡ insert_entry (slice_cmp nat_cmp) names row.name row.token
    → ((name : List ℕ) → lookup (is_at (slice_cmp nat_cmp name)) names2 ≡ cond (is_at (slice_cmp nat_cmp row.name) name) (Some row.token) (lookup (is_at (slice_cmp nat_cmp name)) names))
    → ((token : List ℕ) → has_token text_of tokens2 token ≡ (bytes_eq token row.token || has_token text_of tokens token))
    → is_some (lookup (is_at (slice_cmp nat_cmp row.name)) names) ≡ false
    → HasCallers text_of names2 tokens2 (came ++ row ∷ [])
caller_added text_of came names names2 tokens tokens2 row has added updates put new = record {
  listed = ap (λ es. map row_of es) added ∙ row_put_more names row new ∙ ap (λ listed. insert_key row_order listed row) has.listed ∙ sym (in_order_more caller_list came row);
  by_name = named_more came names names2 row has.by_name updates;
  by_token = tokens_more text_of came tokens tokens2 row has.by_token put;
}

-- whether a name or a token came before, by what keeps them
pub again_by : {Text : Type 0} (text_of : Text → List ℕ) (names : List (List ℕ × List ℕ)) (tokens : List Text) (came : List CallerRow) → HasCallers text_of names tokens came
    → (row : CallerRow) → list_any (comes_again row) came ≡ (is_some (lookup (is_at (slice_cmp nat_cmp row.name)) names) || has_token text_of tokens row.token)
again_by text_of names tokens came has row =
    any_or (λ before. bytes_eq row.name before.name) (λ before. bytes_eq row.token before.token) came
    ∙ ap (λ b. b || list_any (λ before. bytes_eq row.token before.token) came) (has.by_name row.name)
    ∙ ap (λ b. is_some (lookup (is_at (slice_cmp nat_cmp row.name)) names) || b) (has.by_token row.token)

-- a name or a token that came before is the record's fault
pub again_fault : (n : ℕ) (earlier : List CallerRow) (r : Result CallerRow Numbered) (row : CallerRow) (fault : ListFault)
    → r ≡ Ok row → list_any (comes_again row) earlier ≡ true → fault ≡ Repeated n → own_fault caller_list n earlier r ≡ Some fault
again_fault n earlier r row fault is again same = rw (is, again, same) refl
