-- What other callers make of the rows is what they make of the tables.
use Rattle.std.proofs.Common.{◌≡◌, ◌∙◌, ◌+◌, ◌&&◌, ◌||◌, ℕ, Bool, true, false, cond, List, [], ◌∷◌, Option, Some, None, ap, arith, inl, inr, length, map, refl, subst, sym, if◌then◌else◌}
use Rattle.std.specs.Prelude.{filter, find, fold, is_some, not, option_and_then, option_map, unwrap_or}
use Rattle.std.specs.List.{AllByRecursion, Contains, count_by, filter_map, list_any, sum_by}
use Rattle.std.specs.List.Sorted.{IsPermutation, IsStrictlySortedBy}
use Rattle.std.specs.declared.cmp.Ordering.TheVariants.{Less}
use Rattle.std.specs.Str.{bytes_eq}
use Rattle.std.proofs.lemmas.Bool.{and_parts}
use Rattle.std.proofs.lemmas.List.{length-map}
use Rattle.std.proofs.lemmas.List.Recursion.{is_count_by}
use Rattle.std.proofs.lemmas.List.Sorted.{Contains-permutation, IsPermutation-sym, sum_by-IsPermutation}
use Rattle.std.proofs.lemmas.List.Sums.{length-filter, sum_by-cons}
use Rattle.lemmas.proofs.ListFacts.{inside_cases, none_inside}
use Rattle.mcs_reader.specs.Id.{IsId}
use Rattle.catalogue.specs.Ids.{id_cmp, in_order, same_id}
use Rattle.catalogue.proofs.IdFacts.{apart, itself, one_id, same_back}
use Rattle.bureau_store.proofs.SetCallersFacts.{any_that_changes}
use Rattle.bureau_store.proofs.StoreFacts.{same_tables}
use Rattle.bureau_store.specs.Caller.{is_publisher, publisher_name}
use Rattle.bureau_store.specs.SetCallers as set
use Rattle.bureau_store.specs.SetCallers.{comes_or_goes, counts_of, has_name, names_that_change, token_of}
use Rattle.bureau_store.specs.Tables.{NamesAscend, no_change}
use Rattle.bureau_store.specs.declared.caller.Caller.{Caller}
use Rattle.bureau_store.specs.declared.caller.Caller.TheVariants.{Publisher, Client}
use Rattle.bureau_store.specs.declared.caller.CallerRow.{CallerRow}
use Rattle.sqlite_value.specs.Order.{Row, column}
use Rattle.sql_tables.specs.Changes.{replaced, with_callers, without_caller}
use Rattle.sql_tables.specs.Stored.{Stored, change_of, change_said, content_of, is_named, is_of, is_of_both, last_of, received_of, received_said, tables_of, zone_of, zones_of}
use Rattle.sql_tables.specs.Values.{id_in}
use Rattle.sql_tables.proofs.ChangeFacts.{callers_again}
use Rattle.sql_tables.proofs.ClientFacts.{of_apart}
use Rattle.sql_tables.proofs.ListFacts.{filter_other, filter_same}
use Rattle.sql_tables.proofs.MemberFacts.{found_in, none_found}
use Rattle.sql_tables.proofs.ValueFacts.{named_apart}
use Rattle.sql_tables.proofs.ZoneFacts.{same_zones}

-- ---- one caller leaves nothing

-- the rows of the name, and of any other
own_rows : (name : List ℕ) (rows : List Row) → filter (is_of name) (replaced (is_of name) [] rows) ≡ []
own_rows name rows = filter_same (is_of name) [] rows

other_rows : (gone name : List ℕ) → same_id gone name ≡ false → (rows : List Row) → filter (is_of name) (replaced (is_of gone) [] rows) ≡ filter (is_of name) rows
other_rows gone name other rows = filter_other (is_of name) (is_of gone) [] rows (of_apart name gone (same_back name gone ∙ other)) refl

other_zones : (gone name zone : List ℕ) → same_id gone name ≡ false → (rows : List Row) → filter (is_of_both name zone) (replaced (is_of gone) [] rows) ≡ filter (is_of_both name zone) rows
other_zones gone name zone other rows =
    filter_other (is_of_both name zone) (is_of gone) [] rows
    (λ row at. named_apart name gone (column row 0) (same_back name gone ∙ other) (and_parts (is_of name row) (is_named zone (column row 1)) at).0) refl

-- a part of what is kept under a name
abbrev Goes : {A : Type 0} → (Stored → A) → A → List ℕ → Type 0
Goes part none name = (stored : Stored) (gone : List ℕ) → part (without_caller stored gone) ≡ (if same_id gone name then none else part stored)

by_name : {A : Type 0} (part : Stored → A) (none : A) (name : List ℕ) → ((stored : Stored) → part (without_caller stored name) ≡ none)
    → ((stored : Stored) (gone : List ℕ) → same_id gone name ≡ false → part (without_caller stored gone) ≡ part stored) → Goes part none name
by_name part none name own other stored gone = by (same_id gone name) refl
  where
    by : (b : Bool) → same_id gone name ≡ b → part (without_caller stored gone) ≡ cond b none (part stored)
    by true at = ap (λ n. part (without_caller stored n)) (one_id gone name at) ∙ own stored
    by false at = other stored gone at

zones_go : (name : List ℕ) → Goes (λ stored. zones_of stored name) [] name
zones_go name = by_name (λ stored. zones_of stored name) [] name
    (λ stored. ap (λ kept. map (λ zone. (zone, zone_of (without_caller stored name) name zone)) (in_order (filter_map (λ row. id_in (column row 1)) kept))) (own_rows name stored.heads))
    (λ stored gone other. same_zones stored (without_caller stored gone) name (λ zone. other_zones gone name zone other stored.heads) (λ zone. other_zones gone name zone other stored.rows))

received_goes : (name : List ℕ) → Goes (λ stored. received_of stored.received name) (received_said []) name
received_goes name = by_name (λ stored. received_of stored.received name) (received_said []) name
    (λ stored. ap received_said (own_rows name stored.received))
    (λ stored gone other. ap received_said (other_rows gone name other stored.received))

change_goes : (name : List ℕ) → Goes (λ stored. unwrap_or (change_of stored.changes name) no_change) no_change name
change_goes name = by_name (λ stored. unwrap_or (change_of stored.changes name) no_change) no_change name
    (λ stored. ap (λ rows. unwrap_or (change_said rows) no_change) (own_rows name stored.changes))
    (λ stored gone other. ap (λ rows. unwrap_or (change_said rows) no_change) (other_rows gone name other stored.changes))

last_goes : (caller : Caller) → Goes (λ stored. last_of stored.changes caller) no_change (set.name_of caller)
last_goes Publisher = change_goes publisher_name
last_goes (Client name) = by (is_publisher name)
  where
    by : (b : Bool) → Goes (λ stored. unwrap_or (option_and_then (change_of stored.changes) (cond b None (Some name))) no_change) no_change name
    by true stored gone = either (same_id gone name)
      where
        either : (b : Bool) → no_change ≡ cond b no_change no_change
        either true = refl
        either false = refl
    by false stored gone = change_goes name stored gone

-- ---- several do

in_turn : {A : Type 0} (a b : Bool) (none some : A) → cond b none (cond a none some) ≡ cond (a || b) none some
in_turn true true none some = refl
in_turn true false none some = refl
in_turn false b none some = refl

all_go : {A : Type 0} (part : Stored → A) (none : A) (name : List ℕ) → Goes part none name → (names : List (List ℕ)) (stored : Stored)
    → part (fold without_caller stored names) ≡ (if list_any (λ one. same_id one name) names then none else part stored)
all_go part none name goes [] stored = refl
all_go part none name goes (gone ∷ names) stored =
    all_go part none name goes names (without_caller stored gone)
    ∙ ap (λ rest. cond (list_any (λ one. same_id one name) names) none rest) (goes stored gone)
    ∙ in_turn (same_id gone name) (list_any (λ one. same_id one name) names) none (part stored)

content_stays : (names : List (List ℕ)) (stored : Stored) → content_of (fold without_caller stored names) ≡ content_of stored
content_stays [] stored = refl
content_stays (name ∷ names) stored = content_stays names (without_caller stored name)

-- ---- the callers that were read

-- two of the rows with one name are one
one_row : (rows : List CallerRow) → NamesAscend (map (λ (row : CallerRow). row.name) rows) → (a b : CallerRow) → Contains rows a → Contains rows b → a.name ≡ b.name → a ≡ b
unfolding IsStrictlySortedBy
one_row [] ascend a b in_a in_b same = absurd (none_inside a in_a)
one_row (row ∷ rows) ascend a b in_a in_b same = elim (inside_cases row a rows in_a) [
  | inl is_a ↦ elim (inside_cases row b rows in_b) [
    | inl is_b ↦ sym is_a ∙ is_b
    | inr later ↦ absurd (below rows ascend.0 b later (ap (λ (r : CallerRow). r.name) is_a ∙ same))
  ]
  | inr earlier ↦ elim (inside_cases row b rows in_b) [
    | inl is_b ↦ absurd (below rows ascend.0 a earlier (ap (λ (r : CallerRow). r.name) is_b ∙ sym same))
    | inr later ↦ one_row rows ascend.1 a b earlier later same
  ]
]
  where
    below : (others : List CallerRow) → AllByRecursion (λ name. id_cmp row.name name ≡ Less) (map (λ (row : CallerRow). row.name) others) → (other : CallerRow) → Contains others other
        → row.name ≡ other.name → ⊥
    below [] all other inside is = none_inside other inside
    below (next ∷ others) all other inside is = elim (inside_cases next other others inside) [
      | inl here ↦
          (let less : id_cmp row.name other.name ≡ Less = subst (λ (r : CallerRow). id_cmp row.name r.name ≡ Less) here all.0 in
          let f : true ≡ false = sym (itself row.name) ∙ ap (same_id row.name) is ∙ apart row.name other.name less in cc)
      | inr later ↦ below others all.1 other later is
    ]

module _ (found these : List CallerRow) (ascend : NamesAscend (map (λ (row : CallerRow). row.name) found)) (same : IsPermutation these found) where
  -- each name has the same token
  same_token : (name : List ℕ) → token_of found name ≡ token_of these name
  same_token name = ap (option_map (λ (row : CallerRow). row.token)) (by (find (λ (row : CallerRow). bytes_eq row.name name) found) (find (λ (row : CallerRow). bytes_eq row.name name) these) refl refl)
    where
      named : CallerRow → Bool
      named row = bytes_eq row.name name

      by : (a b : Option CallerRow) → find (λ (row : CallerRow). bytes_eq row.name name) found ≡ a → find (λ (row : CallerRow). bytes_eq row.name name) these ≡ b
          → find (λ (row : CallerRow). bytes_eq row.name name) found ≡ find (λ (row : CallerRow). bytes_eq row.name name) these
      by None None at there = at ∙ sym there
      by (Some a) None at there =
          let it = found_in named found a at in
          absurd (none_found named these there a (Contains-permutation found these a (IsPermutation-sym these found same) it.0) it.1)
      by None (Some b) at there =
          let it = found_in named these b there in
          absurd (none_found named found at b (Contains-permutation these found b same it.0) it.1)
      by (Some a) (Some b) at there =
          let one = found_in named found a at in
          let other = found_in named these b there in
          let is : a ≡ b = one_row found ascend a b one.0 (Contains-permutation these found b same other.0) (one_id a.name name one.1 ∙ sym (one_id b.name name other.1)) in
          at ∙ ap Some is ∙ sym there

  same_name : (name : List ℕ) → has_name found name ≡ has_name these name
  same_name name = ap (λ (token : Option (List ℕ)). is_some token) (same_token name)

  same_change : (rows : List CallerRow) (name : List ℕ) → comes_or_goes found rows name ≡ comes_or_goes these rows name
  same_change rows name = ap (λ b. (has_name rows name && not b) || (b && not (has_name rows name))) (same_name name)

  -- how many a test keeps doesn't depend on their order
  count_is : (p : CallerRow → Bool) (xs : List CallerRow) → sum_by (λ row. cond (p row) 1 0) xs ≡ count_by p xs
  count_is p xs = is_count_by (sum_by (λ row. cond (p row) 1 0)) p refl (λ x rest. sum_by-cons (λ row. cond (p row) 1 0) x rest ∙ step (p x) (sum_by (λ row. cond (p row) 1 0) rest)) xs
    where
      step : (b : Bool) (n : ℕ) → cond b 1 0 + n ≡ cond b (1 + n) n
      step true n = refl
      step false n = omega arith

  kept : (p : CallerRow → Bool) (xs : List CallerRow) → length (map (λ (row : CallerRow). row.name) (filter p xs)) ≡ sum_by (λ row. cond (p row) 1 0) xs
  kept p xs = length-map (filter p xs) (λ (row : CallerRow). row.name) ∙ length-filter p xs ∙ sym (count_is p xs)

  as_many : (p : CallerRow → Bool) → length (map (λ (row : CallerRow). row.name) (filter p found)) ≡ length (map (λ (row : CallerRow). row.name) (filter p these))
  as_many p = kept p found ∙ sum_by-IsPermutation (λ row. cond (p row) 1 0) these found same ∙ sym (kept p these)

  -- so as many come and go
  pub same_counts : (rows : List CallerRow) → counts_of found rows ≡ counts_of these rows
  same_counts rows =
      let added = ap (λ (has : List ℕ → Bool). length (map (λ (row : CallerRow). row.name) (filter (λ (row : CallerRow). not (has row.name)) rows))) (λ i name. same_name name i) in
      let removed = as_many (λ row. not (has_name rows row.name)) in
      let tokens = ap (λ (token : List ℕ → Option (List ℕ)). count_by (λ (row : CallerRow). unwrap_or (option_map (λ one. not (bytes_eq one row.token)) (token row.name)) false) rows) (λ i name. same_token name i) in
      λ i. record { callers = length rows; added = added i; removed = removed i; tokens = tokens i }

  -- and the tables are those with the new callers
  pub callers_set : (rows : List CallerRow) (stored : Stored) → AllByRecursion (λ (row : CallerRow). IsId row.name) rows → (tables_of stored).callers ≡ these
      → tables_of (with_callers (names_that_change found rows) rows stored) ≡ set.with_callers rows (tables_of stored)
  callers_set rows stored all are =
      same_tables (tables_of (with_callers names rows stored)) (set.with_callers rows (tables_of stored)) (callers_again rows all) (content_stays names stored)
      (λ caller. gone (λ one. last_of one.changes caller) no_change (set.name_of caller) (last_goes caller))
      (λ name. gone (λ one. zones_of one name) [] name (zones_go name))
      (λ name. gone (λ one. received_of one.received name) (received_said []) name (received_goes name))
    where
      names : List (List ℕ)
      names = names_that_change found rows

      gone : {A : Type 0} (part : Stored → A) (none : A) (name : List ℕ) → Goes part none name
          → part (fold without_caller stored names) ≡ (if comes_or_goes (tables_of stored).callers rows name then none else part stored)
      gone part none name goes =
          all_go part none name goes names stored
          ∙ ap (λ b. cond b none (part stored)) (any_that_changes found rows name ∙ same_change rows name ∙ ap (λ old. comes_or_goes old rows name) (sym are))
