-- What a scan of a table finds.
use Rattle.std.proofs.Common.{◌≡◌, ◌&&◌, ◌-◌, ◌<◌, ◌≤◌, ℕ, Bool, true, false, List, [], ◌∷◌, refl, sym, ◌∙◌, ap, ap₂, subst, subst₂, arith, get_or, length, Some}
use Rattle.std.specs.Prelude.{drop, filter, map, nat_lt}
use Rattle.std.specs.Cmp.Lexicographic.{slice_cmp}
use Rattle.std.specs.List.{All}
use Rattle.std.specs.List.Sorted.{IsPermutation}
use Rattle.std.specs.Ordering.{is_ge, is_le, nat_cmp, ordering_reverse}
use Rattle.std.specs.Str.{bytes_eq}
use Rattle.std.specs.declared.cmp.Ordering.{Ordering}
use Rattle.std.specs.declared.cmp.Ordering.TheVariants.{Equal, Greater, Less}
use Rattle.std.proofs.Math.Bool.{and-true}
use Rattle.std.proofs.Math.ListN.{get_or-map}
use Rattle.std.proofs.lemmas.Bool.{and_from}
use Rattle.std.proofs.lemmas.Bool.Decides.{nat_tests}
use Rattle.std.proofs.lemmas.Cmp.{nat_list_cmp_total, tied_itself}
use Rattle.std.proofs.lemmas.List.{get_or_default, length-map}
use Rattle.std.proofs.lemmas.List.Elements.{recursion_from_All}
use Rattle.std.proofs.lemmas.Map.Keys.{Less-from_sorted}
use Rattle.lemmas.proofs.ListFacts.{all_so}
use Rattle.mcs_reader.specs.Id.{IsId, text_of}
use Rattle.catalogue.proofs.IdFacts.{one_id}
use Rattle.sqlite.specs.Collation.TheVariants.{Binary}
use Rattle.sqlite.specs.Ops.{binary, from_truth, is_true}
use Rattle.sqlite.specs.Query.{IsAnswer}
use Rattle.sqlite.specs.Tree.{Trees}
use Rattle.sqlite_sql.specs.declared.ops.BinaryOp.TheVariants.{Compare}
use Rattle.sqlite_sql.specs.declared.ops.CompareOp.TheVariants.{Ge, Le}
use Rattle.sqlite_trees.proofs.ListLemmas.{IsPermutation-filter, filter-filter, filter-map}
use Rattle.sqlite_value.specs.Order.{Row, column, value_cmp}
use Rattle.sqlite_value.specs.declared.value.Value.{Value}
use Rattle.sqlite_value.specs.declared.value.Value.TheVariants.{Null, Int, Real, Text, Blob}
use Rattle.sqlite_value.proofs.OrderLemmas.{value_cmp-Text}
use Rattle.sql_texts.specs.Found.{passes}
use Rattle.sql_texts.proofs.AnswerFacts.{truth_again}
use Rattle.sql_tables.specs.InTrees.{columns_of, stored_in}
use Rattle.sql_tables.specs.Stored.{Stored, is_named, is_of, shown}
use Rattle.sql_tables.specs.Values.{text_in}
use Rattle.sql_tables.proofs.TreeFacts.{column_after}
use Rattle.sql_tables.proofs.TextFacts.{text_named}
use Rattle.sql_reads.specs.Runs.{IsRun, TextsAscend}
use Rattle.sql_reads.specs.Scans.{AreOf, HaveEach, KeysRise, between_given, has_key, scan_of}
use Rattle.sql_reads.proofs.TableFacts.{kept_alike, table_found}

-- ---- which rows lie between

-- whether a value is a text from one text to another, byte for byte
abbrev lies_between : List ℕ → List ℕ → Value → Bool
lies_between first last (Text t) = is_ge (slice_cmp nat_cmp t first) && is_le (slice_cmp nat_cmp t last)
lies_between first last (Blob b) = false
lies_between first last (Int n) = false
lies_between first last (Real x) = false
lies_between first last Null = false

-- how a text is compared with both ends
at_least : (t first : List ℕ) → is_true (binary (Compare Ge Binary) (Text t) (Text first)) ≡ is_ge (slice_cmp nat_cmp t first)
unfolding binary
at_least t first = ap (λ o. is_true (from_truth (Some (is_ge o)))) (value_cmp-Text t first) ∙ truth_again (is_ge (slice_cmp nat_cmp t first))

at_most : (t last : List ℕ) → is_true (binary (Compare Le Binary) (Text t) (Text last)) ≡ is_le (slice_cmp nat_cmp t last)
unfolding binary
at_most t last = ap (λ o. is_true (from_truth (Some (is_le o)))) (value_cmp-Text t last) ∙ truth_again (is_le (slice_cmp nat_cmp t last))

text_compared : (first last t : List ℕ)
    → (is_true (binary (Compare Ge Binary) (Text t) (Text first)) && (is_true (binary (Compare Le Binary) (Text t) (Text last)) && true)) ≡ lies_between first last (Text t)
text_compared first last t = ap₂ ◌&&◌ (at_least t first) (and-true _ ∙ at_most t last)

-- how a value is
compared : (first last : List ℕ) (value : Value)
    → (is_true (binary (Compare Ge Binary) value (Text first)) && (is_true (binary (Compare Le Binary) value (Text last)) && true)) ≡ lies_between first last value
unfolding binary value_cmp
compared first last Null = refl
compared first last (Int n) = refl
compared first last (Real x) = refl
compared first last (Blob b) = refl
compared first last (Text t) = text_compared first last t

between_passes : (first last : List ℕ) (row : Row) → passes (Text first ∷ Text last ∷ []) between_given row ≡ lies_between first last (column (drop 1 row) 0)
between_passes first last row = compared first last (column row 1) ∙ ap (lies_between first last) (sym (column_after row 0))

-- ---- the rows of an id

-- the text of a value is that of an id just if the value names the id
key_named : (id : List ℕ) → IsId id → (value : Value) → bytes_eq (text_in value) (text_of id) ≡ is_named id value
key_named id is value = text_named id is (Text (text_in value))

-- what names an id that lies between lies between
named_between : (first last id : List ℕ) → IsId id → lies_between first last (Text (text_of id)) ≡ true → (value : Value) → is_named id value ≡ true → lies_between first last value ≡ true
named_between first last id is inside Null named = let e = text_named id is Null ∙ named in cc
named_between first last id is inside (Int n) named = let e = text_named id is (Int n) ∙ named in cc
named_between first last id is inside (Real x) named = let e = text_named id is (Real x) ∙ named in cc
named_between first last id is inside (Blob b) named = let e = text_named id is (Blob b) ∙ named in cc
named_between first last id is inside (Text t) named = subst (λ text. lies_between first last (Text text) ≡ true) (sym (one_id t (text_of id) (text_named id is (Text t) ∙ named))) inside

-- ---- a run of ids

-- an id of a run is not above a later one
not_above : (ids : List (List ℕ)) (i k : ℕ) (d e : List ℕ) → TextsAscend ids → i ≤ k → k < length ids → is_le (slice_cmp nat_cmp (text_of (get_or ids i d)) (text_of (get_or ids k e))) ≡ true
not_above ids i k d e ascend before within = by (nat_lt i k) refl
  where
    by : (t : Bool) → nat_lt i k ≡ t → is_le (slice_cmp nat_cmp (text_of (get_or ids i d)) (text_of (get_or ids k e))) ≡ true
    by true below =
        subst (λ x. is_le (slice_cmp nat_cmp (text_of (get_or ids i d)) (text_of x)) ≡ true) (get_or_default ids k d e within)
        (subst₂ (λ a b. is_le (slice_cmp nat_cmp a b) ≡ true) (get_or-map text_of ids i d) (get_or-map text_of ids k d)
        (ap is_le (Less-from_sorted (slice_cmp nat_cmp) (map text_of ids) i k (text_of d) ascend (grind (arith, nat_tests, below)) (subst (λ n. k < n) (sym (length-map ids text_of)) within))))
    by false beyond =
        let there : k ≡ i = grind (arith, nat_tests, beyond, before) in
        let same : get_or ids k e ≡ get_or ids i d = get_or_default ids k e d within ∙ ap (λ n. get_or ids n d) there in
        subst (λ x. is_le (slice_cmp nat_cmp (text_of (get_or ids i d)) (text_of x)) ≡ true) (sym same) (ap is_le (tied_itself nat_list_cmp_total (text_of (get_or ids i d))))

-- what is not above a text is not below it the other way round
turned : (a b : List ℕ) → is_le (slice_cmp nat_cmp a b) ≡ true → is_ge (slice_cmp nat_cmp b a) ≡ true
turned a b h = ap is_ge (nat_list_cmp_total.antisymm b a) ∙ by (slice_cmp nat_cmp a b) ∙ h
  where
    by : (o : Ordering) → is_ge (ordering_reverse o) ≡ is_le o
    by Less = refl
    by Equal = refl
    by Greater = refl

-- each id of a run lies between the first and the last
run_between : (ids : List (List ℕ)) (first last : List ℕ) → IsRun ids → get_or ids 0 first ≡ first → get_or ids (length ids - 1) last ≡ last
    → All (λ id. lies_between (text_of first) (text_of last) (Text (text_of id)) ≡ true) ids
run_between ids first last run at_first at_last k d within =
    and_from _ _
    (turned (text_of first) (text_of (get_or ids k d)) (subst (λ x. is_le (slice_cmp nat_cmp (text_of x) (text_of (get_or ids k d))) ≡ true) at_first (not_above ids 0 k first d run.ascend (omega arith) within)))
    (subst (λ x. is_le (slice_cmp nat_cmp (text_of (get_or ids k d)) (text_of x)) ≡ true) at_last (not_above ids k (length ids - 1) d last run.ascend (omega (arith, within)) (omega (arith, within))))

-- ---- what a scan finds

-- A scan of a tree that shows the id at some place finds the rows of each id of a run.
module _ (tree : ℕ) (columns order : List ℕ) (place : ℕ) (rows_in : Stored → List Row) (here : (trees : Trees) → rows_in (stored_in trees) ≡ columns_of (trees tree))
    (placed : (row : Row) → column (shown columns row) place ≡ column row 0) where
  shown_key : (id : List ℕ) → IsId id → (row : Row) → has_key place (text_of id) (shown columns row) ≡ is_of id row
  shown_key id is row = ap (λ value. bytes_eq (text_in value) (text_of id)) (placed row) ∙ key_named id is (column row 0)

  found_between : (first last : List ℕ) (trees : Trees) (rows : List Row) → IsAnswer (scan_of tree columns order) trees (Text first ∷ Text last ∷ []) rows
      → (id : List ℕ) → lies_between first last (Text (text_of id)) ≡ true → IsId id → AreOf columns (rows_in (stored_in trees)) id (filter (has_key place (text_of id)) rows)
  found_between first last trees rows answer id inside is =
      let all = columns_of (trees tree) in
      let test : Row → Bool = λ row. lies_between first last (column row 0) in
      let show = shown columns in
      let mine = has_key place (text_of id) in
      let found : IsPermutation (map show (filter test all)) rows =
      table_found tree between_given columns order (Text first ∷ Text last ∷ []) trees rows test (between_passes first last) answer in
      subst (λ kept. IsPermutation kept (filter mine rows))
      (filter-map mine show (filter test all)
      ∙ ap (map show) (kept_alike (λ row. mine (show row)) (is_of id) (filter test all) (shown_key id is)
      ∙ filter-filter (is_of id) test (λ row named. named_between first last id is inside (column row 0) named) all
      ∙ ap (filter (is_of id)) (sym (here trees))))
      (IsPermutation-filter mine (map show (filter test all)) rows found)

  pub scan_has : (ids : List (List ℕ)) (first last : List ℕ) → IsRun ids → get_or ids 0 first ≡ first → get_or ids (length ids - 1) last ≡ last
      → (trees : Trees) (rows : List Row) → IsAnswer (scan_of tree columns order) trees (Text (text_of first) ∷ Text (text_of last) ∷ []) rows → KeysRise place rows
      → HaveEach columns place (rows_in (stored_in trees)) ids rows
  scan_has ids first last run at_first at_last trees rows answer rises =
      let inside : List ℕ → Type 0 = λ id. lies_between (text_of first) (text_of last) (Text (text_of id)) ≡ true in
      record {
        ascend = run.ascend;
        rises = rises;
        each = all_so inside _ (found_between (text_of first) (text_of last) trees rows answer) ids (recursion_from_All inside ids (run_between ids first last run at_first at_last));
      }
