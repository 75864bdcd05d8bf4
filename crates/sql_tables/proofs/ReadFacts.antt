-- What a read finds among the rows is what the tables say.
use Rattle.std.proofs.Common.{◌≡◌, ℕ, Bool, true, false, cond, List, [], ◌∷◌, refl, sym, ◌∙◌, ap, subst, inl, inr}
use Rattle.std.specs.Prelude.{filter, find, map, reverse, Option, Some, None}
use Rattle.std.specs.List.{AllByRecursion, Contains}
use Rattle.std.specs.List.Sorted.{IsPermutation, IsStrictlySortedBy}
use Rattle.std.specs.Ordering.{is_eq}
use Rattle.std.specs.declared.cmp.Ordering.TheVariants.{Less}
use Rattle.std.proofs.lemmas.List.Sorted.{Contains-permutation, IsPermutation-reverse, IsPermutation-sym}
use Rattle.lemmas.proofs.ListFacts.{inside_cases, none_inside}
use Rattle.catalogue.proofs.BookFacts.{filtered_in_order, own_book, own_left}
use Rattle.holddata.specs.HoldBook.{IsInKeyOrder, book_of, hold_under, keys_in}
use Rattle.holddata.specs.HoldKey.{is_same_key, key_cmp}
use Rattle.holddata.specs.declared.hold.Hold.{Hold}
use Rattle.holddata.specs.declared.hold.HoldChange.TheVariants.{Put}
use Rattle.holddata.specs.declared.key.HoldKey.{HoldKey}
use Rattle.holddata.proofs.BookFacts.{book_of_is_left, book_of_only}
use Rattle.holddata.proofs.KeyFacts.{same_is, same_key, turned_same}
use Rattle.zone_lists.specs.ZoneList.{RowsAscend}
use Rattle.zone_lists.specs.declared.zones.ZoneRow.{ZoneRow}
use Rattle.sqlite_value.specs.Order.{Row}
use Rattle.sql_tables.specs.Stored.{rows_as_stored, zone_rows_of}
use Rattle.sql_tables.proofs.ContentFacts.{key_itself, last_under, left_put}
use Rattle.sql_tables.proofs.MemberFacts.{found_in, none_found, read_in_order}

-- the rows of a zone
pub zone_rows_read : (rows : List Row) (client zone : List ℕ) (found : List ZoneRow) → RowsAscend found → IsPermutation (rows_as_stored rows client zone) found
    → found ≡ zone_rows_of rows client zone
zone_rows_read rows client zone found ascend permuted = read_in_order (λ row. row.sysmod) (rows_as_stored rows client zone) found ascend permuted

-- ---- holds

-- a hold of a book in order is found under its key
member_under : (book : List Hold) → IsInKeyOrder book → (hold : Hold) → Contains book hold → hold_under book hold.key ≡ Some hold
unfolding IsStrictlySortedBy
member_under [] h hold inside = absurd (none_inside hold inside)
member_under (first ∷ book) h hold inside = elim (inside_cases first hold book inside) [
  | inl same ↦ subst (λ (x : Hold). hold_under (first ∷ book) x.key ≡ Some x) same (ap (λ b. cond b (Some first) (hold_under book first.key)) (key_itself first.key))
  | inr later ↦ ap (λ b. cond b (Some first) (hold_under book hold.key))
      (turned_same hold.key first.key ∙ sym (same_is first.key hold.key) ∙ ap is_eq (all_at book h.0 hold later)) ∙ member_under book h.1 hold later
]
  where
    all_at : (holds : List Hold) → AllByRecursion (λ k. key_cmp first.key k ≡ Less) (keys_in holds) → (x : Hold) → Contains holds x → key_cmp first.key x.key ≡ Less
    all_at [] all x inside = absurd (none_inside x inside)
    all_at (y ∷ ys) all x inside = elim (inside_cases y x ys inside) [
      | inl same ↦ subst (λ (z : Hold). key_cmp first.key z.key ≡ Less) same all.0
      | inr later ↦ all_at ys all.1 x later
    ]

-- where all that pass one test pass another alike, a filter by the other keeps what is found
find_kept : {A : Type 0} (test kept : A → Bool) (b : Bool) → ((x : A) → test x ≡ true → kept x ≡ b) → (xs : List A) → find test (filter kept xs) ≡ cond b (find test xs) None
find_kept test kept true alike [] = refl
find_kept test kept false alike [] = refl
find_kept test kept b alike (x ∷ xs) = by (kept x) refl (test x) refl b alike (find_kept test kept b alike xs)
  where
    by : (k : Bool) → kept x ≡ k → (t : Bool) → test x ≡ t → (c : Bool) → ((y : _) → test y ≡ true → kept y ≡ c) → find test (filter kept xs) ≡ cond c (find test xs) None
        → find test (cond k (x ∷ filter kept xs) (filter kept xs)) ≡ cond c (cond t (Some x) (find test xs)) None
    by true is true at true same rest = ap (λ q. cond q (Some x) (find test (filter kept xs))) at
    by true is true at false same rest = let e : true ≡ false = sym is ∙ same x at in cc
    by true is false at c same rest = ap (λ q. cond q (Some x) (find test (filter kept xs))) at ∙ rest
    by false is true at true same rest = let e : false ≡ true = sym is ∙ same x at in cc
    by false is true at false same rest = rest
    by false is false at c same rest = rest

-- a read of holds in the order of their keys finds what the book has
module _ (decoded found : List Hold) (asked : HoldKey → Bool) (ordered : IsInKeyOrder found)
    (there : (hold : Hold) → Contains found hold → Contains decoded hold × (asked hold.key ≡ true))
    (back : (hold : Hold) → Contains decoded hold → asked hold.key ≡ true → Contains found hold) where
  abbrev book : List Hold
  book = book_of (map Put decoded)

  in_book : (key : HoldKey) → hold_under (book_of (map Put decoded)) key ≡ last_under decoded key
  in_book key = (book_of_is_left (map Put decoded)).holds key ∙ left_put decoded key

  last_in : (key : HoldKey) (hold : Hold) → last_under decoded key ≡ Some hold → Contains decoded hold × (is_same_key hold.key key ≡ true)
  last_in key hold h =
      let is = found_in (λ (x : Hold). is_same_key x.key key) (reverse decoded) hold h in
      (Contains-permutation (reverse decoded) decoded hold (IsPermutation-sym decoded (reverse decoded) (IsPermutation-reverse decoded)) is.0, is.1)

  one : (key : HoldKey) → cond (asked key) (hold_under (book_of (map Put decoded)) key) None ≡ hold_under found key
  one key = by (hold_under found key) refl (asked key) refl (last_under decoded key) refl
    where
      by : (f : Option Hold) → hold_under found key ≡ f → (a : Bool) → asked key ≡ a → (l : Option Hold) → last_under decoded key ≡ l
          → cond a (hold_under (book_of (map Put decoded)) key) None ≡ hold_under found key
      by None is false at l has = sym is
      by None is true at None has = in_book key ∙ has ∙ sym is
      by None is true at (Some hold) has =
          let inside = last_in key hold has in
          let same : hold.key ≡ key = same_key hold.key key inside.1 in
          absurd (none_found (λ (x : Hold). is_same_key key x.key) found is hold (back hold inside.0 (ap asked same ∙ at)) (turned_same key hold.key ∙ inside.1))
      by (Some hold) is false at l has =
          let inside = found_in (λ (x : Hold). is_same_key key x.key) found hold is in
          let same : key ≡ hold.key = same_key key hold.key inside.1 in
          let e : false ≡ true = sym at ∙ ap asked same ∙ (there hold inside.0).1 in absurd (cc)
      by (Some hold) is true at None has =
          let inside = found_in (λ (x : Hold). is_same_key key x.key) found hold is in
          absurd (none_found (λ (x : Hold). is_same_key x.key key) (reverse decoded) has hold
          (Contains-permutation decoded (reverse decoded) hold (IsPermutation-reverse decoded) (there hold inside.0).0) (turned_same hold.key key ∙ inside.1))
      by (Some hold) is true at (Some last) has =
          let inside = found_in (λ (x : Hold). is_same_key key x.key) found hold is in
          let other = last_in key last has in
          let same : last.key ≡ key = same_key last.key key other.1 in
          let found_last : hold_under found last.key ≡ Some last = member_under found ordered last (back last other.0 (ap asked same ∙ at)) in
          in_book key ∙ has ∙ sym found_last ∙ ap (hold_under found) same

  pub holds_read : found ≡ filter (λ hold. asked hold.key) (book_of (map Put decoded))
  holds_read =
      own_book found ordered
      ∙ sym (book_of_only (map Put found) (filter (λ (hold : Hold). asked hold.key) (book_of (map Put decoded))) (record {
        in_key_order = filtered_in_order (λ hold. asked hold.key) (book_of (map Put decoded)) (book_of_is_left (map Put decoded)).in_key_order;
        holds = λ key.
            find_kept (λ (hold : Hold). is_same_key key hold.key) (λ hold. asked hold.key) (asked key) (λ hold at. ap asked (sym (same_key key hold.key at))) (book_of (map Put decoded))
            ∙ one key
            ∙ sym (own_left found key ordered);
      }))
