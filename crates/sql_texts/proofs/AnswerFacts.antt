-- What a query of one table answers.
use Rattle.std.proofs.Common.{◌≡◌, ℕ, Bool, true, false, cond, List, [], ◌∷◌, ◌++◌, refl, sym, ◌∙◌, ap, subst}
use Rattle.std.specs.Prelude.{filter, flat_map, map, Some, None, unwrap_or, nat_le, slice_get, ◌-◌, ◌^◌}
use Rattle.std.specs.List.{list_all}
use Rattle.std.specs.List.Sorted.{IsPermutation}
use Rattle.std.specs.Ordering.{is_eq, nat_cmp}
use Rattle.std.specs.Cmp.Lexicographic.{slice_cmp}
use Rattle.std.proofs.lemmas.List.{map-append}
use Rattle.std.proofs.lemmas.List.Sorted.{IsPermutation-map}
use Rattle.std.proofs.lemmas.Map.Text.{is_eq-slice_cmp}
use Rattle.std.specs.Str.{bytes_eq}
use Rattle.sqlite.proofs.Callers.{IsPlain, command_of, reads_as}
use Rattle.sqlite.specs.Ops.{binary, from_truth, is_true}
use Rattle.sqlite.specs.Program.{overlay}
use Rattle.sqlite.specs.State.{State, Shown}
use Rattle.sqlite_value.proofs.OrderLemmas.{value_cmp-Text}
use Rattle.sql_texts.specs.Meaning.{Reads, selection}
use Rattle.sql_texts.specs.Schema.{bureau}
use Rattle.sqlite.specs.Query.{IsAnswer, Output, Query, output}
use Rattle.sqlite.specs.Term.{Term, col}
use Rattle.sqlite.specs.Tree.{Trees}
use Rattle.sqlite.specs.Collation.TheVariants.{Binary}
use Rattle.sqlite.specs.declared.types.Value.{Value}
use Rattle.sqlite.specs.declared.types.Value.TheVariants.{Null, Int, Real, Text, Blob}
use Rattle.sqlite_sql.specs.Query.{Join, inner, end, matches}
use Rattle.sqlite_sql.specs.Term.{eval_all, holds}
use Rattle.sqlite_sql.specs.declared.ops.BinaryOp.TheVariants.{Compare}
use Rattle.sqlite_sql.specs.declared.ops.CompareOp.TheVariants.{Eq}
use Rattle.sqlite_value.specs.Order.{Row, column, value_cmp}
use Rattle.sql_texts.specs.Found.{is_text, pairs_shown, passes, passes_with, shown}
use Rattle.sql_texts.specs.Reads.{from_table, query_of}

-- the rows that are shown, of those of the table
show_matches : (tree : ℕ) (tests : List Term) (project order : List ℕ) (params : Row) (rows : List Row)
    → map (λ (o : Output). o.1) (map (output (from_table tree tests project order)) (flat_map (λ row. cond (list_all (holds (params ∷ row ∷ [])) tests) ((params ∷ row ∷ []) ∷ []) []) rows))
    ≡ map (shown project) (filter (passes params tests) rows)
show_matches tree tests project order params [] = refl
show_matches tree tests project order params (row ∷ rows) = by (list_all (holds (params ∷ row ∷ [])) tests) (show_matches tree tests project order params rows)
  where
    terms : (indices : List ℕ) → eval_all (map (col 1) indices) (params ∷ row ∷ []) ≡ map (column row) indices
    terms [] = refl
    terms (index ∷ indices) = ap (λ values. column row index ∷ values) (terms indices)

    by : (b : Bool)
        → map (λ (o : Output). o.1) (map (output (from_table tree tests project order)) (flat_map (λ r. cond (list_all (holds (params ∷ r ∷ [])) tests) ((params ∷ r ∷ []) ∷ []) []) rows)) ≡ map (shown project) (filter (passes params tests) rows)
        → map (λ (o : Output). o.1) (map (output (from_table tree tests project order)) (cond b ((params ∷ row ∷ []) ∷ []) [] ++ flat_map (λ r. cond (list_all (holds (params ∷ r ∷ [])) tests) ((params ∷ r ∷ []) ∷ []) []) rows))
        ≡ map (shown project) (cond b (row ∷ filter (passes params tests) rows) (filter (passes params tests) rows))
    by true later = ap (λ first. first ∷ map (λ (o : Output). o.1) (map (output (from_table tree tests project order)) (flat_map (λ r. cond (list_all (holds (params ∷ r ∷ [])) tests) ((params ∷ r ∷ []) ∷ []) []) rows))) (terms project)
        ∙ ap (λ others. shown project row ∷ others) later
    by false later = later

pub table_answer : (tree : ℕ) (tests : List Term) (project order : List ℕ) (db : Trees) (params : Row) (rows : List Row)
    → IsAnswer (from_table tree tests project order) db params rows
    → IsPermutation (map (shown project) (filter (passes params tests) (db tree))) rows
table_answer tree tests project order db params rows answer =
    let values = λ (outputs : List Output). map (λ (o : Output). o.1) outputs in
    let kept : answer.kept ≡ map (output (from_table tree tests project order)) (matches db tests (inner tree end) (params ∷ [])) =
    answer.distinct ∙ ap (map (output (from_table tree tests project order))) answer.grouped in
    let shuffled : IsPermutation (values answer.kept) (values answer.ordered) = IsPermutation-map (λ (o : Output). o.1) answer.kept answer.ordered answer.same in
    let from : IsPermutation (map (shown project) (filter (passes params tests) (db tree))) (values answer.ordered) =
    subst (λ xs. IsPermutation xs (values answer.ordered)) (ap values kept ∙ show_matches tree tests project order params (db tree)) shuffled in
    subst (IsPermutation (map (shown project) (filter (passes params tests) (db tree)))) (sym answer.shown) from

-- ---- how a text is compared

pub truth_again : (b : Bool) → is_true (from_truth (Some b)) ≡ b
truth_again true = refl
truth_again false = refl

two_texts : (t text : List ℕ) → is_true (binary (Compare Eq Binary) (Text t) (Text text)) ≡ bytes_eq t text
unfolding binary
two_texts t text = ap (λ o. is_true (from_truth (Some (is_eq o)))) (value_cmp-Text t text) ∙ truth_again (is_eq (slice_cmp nat_cmp t text)) ∙ is_eq-slice_cmp t text

pub same_text : (value : Value) (text : List ℕ) → is_true (binary (Compare Eq Binary) value (Text text)) ≡ is_text text value
unfolding binary value_cmp
same_text Null text = refl
same_text (Int n) text = refl
same_text (Real x) text = refl
same_text (Blob b) text = refl
same_text (Text t) text = two_texts t text

-- ---- from what a connection shows

-- no table is computed first
pub plain_trees : (db : Trees) (tree : ℕ) → overlay db [] tree ≡ db tree
plain_trees db tree = by (nat_le (2 ^ 31) tree)
  where
    by : (b : Bool) → unwrap_or (cond b (slice_get [] (tree - 2 ^ 31)) None) (db tree) ≡ db tree
    by true = refl
    by false = refl

-- a text that reads shows an answer of its query
read_answer : (text : List ℕ) (query : Query) (names : List (List ℕ)) (parameters : ℕ) (params : Row) (old new : State) (rows : List Row)
    → Reads bureau text query names parameters → old.now.schema ≡ bureau → Shown text params old new rows → IsAnswer query (overlay old.now.trees []) params rows
read_answer text query names parameters params old new rows reads ours shown =
    (reads_as text params old new bureau ours (selection query names) (ap command_of reads.statement) (subst IsPlain (sym reads.statement) (refl, refl)) reads.unlisted rows shown).answer Null

-- of one table
pub table_read : (text : List ℕ) (tree : ℕ) (tests : List Term) (project order : List ℕ) (names : List (List ℕ)) (parameters : ℕ) (params : Row) (old new : State) (rows : List Row)
    → Reads bureau text (from_table tree tests project order) names parameters → old.now.schema ≡ bureau → Shown text params old new rows
    → IsPermutation (map (shown project) (filter (passes params tests) (old.now.trees tree))) rows
table_read text tree tests project order names parameters params old new rows reads ours here =
    subst (λ table. IsPermutation (map (shown project) (filter (passes params tests) table)) rows) (plain_trees old.now.trees tree)
    (table_answer tree tests project order (overlay old.now.trees []) params rows (read_answer text (from_table tree tests project order) names parameters params old new rows reads ours here))

-- ---- two tables

-- the rows of two tables that pass together, as they are shown
show_second : (from : Join) (tests project order : List Term) (params first : Row) (rows : List Row)
    → map (λ (o : Output). o.1) (map (output (query_of from tests project order)) (flat_map (λ second. cond (list_all (holds (params ∷ first ∷ second ∷ [])) tests) ((params ∷ first ∷ second ∷ []) ∷ []) []) rows))
    ≡ pairs_shown params tests project first rows
show_second from tests project order params first [] = refl
show_second from tests project order params first (row ∷ rows) =
    by (list_all (holds (params ∷ first ∷ row ∷ [])) tests) (show_second from tests project order params first rows)
  where
    by : (b : Bool)
        → map (λ (o : Output). o.1) (map (output (query_of from tests project order)) (flat_map (λ second. cond (list_all (holds (params ∷ first ∷ second ∷ [])) tests) ((params ∷ first ∷ second ∷ []) ∷ []) []) rows)) ≡ pairs_shown params tests project first rows
        → map (λ (o : Output). o.1) (map (output (query_of from tests project order)) (cond b ((params ∷ first ∷ row ∷ []) ∷ []) [] ++ flat_map (λ second. cond (list_all (holds (params ∷ first ∷ second ∷ [])) tests) ((params ∷ first ∷ second ∷ []) ∷ []) []) rows))
        ≡ map (λ second. eval_all project (params ∷ first ∷ second ∷ [])) (cond b (row ∷ filter (passes_with params tests first) rows) (filter (passes_with params tests first) rows))
    by true later = ap (λ others. eval_all project (params ∷ first ∷ row ∷ []) ∷ others) later
    by false later = later

show_pairs : (from : Join) (tests project order : List Term) (params : Row) (firsts seconds : List Row)
    → map (λ (o : Output). o.1) (map (output (query_of from tests project order))
    (flat_map (λ first. flat_map (λ second. cond (list_all (holds (params ∷ first ∷ second ∷ [])) tests) ((params ∷ first ∷ second ∷ []) ∷ []) []) seconds) firsts))
    ≡ flat_map (λ first. pairs_shown params tests project first seconds) firsts
show_pairs from tests project order params [] seconds = refl
show_pairs from tests project order params (first ∷ firsts) seconds =
    let found = λ (x : Row). flat_map (λ second. cond (list_all (holds (params ∷ x ∷ second ∷ [])) tests) ((params ∷ x ∷ second ∷ []) ∷ []) []) seconds in
    ap (map (λ (o : Output). o.1)) (map-append (output (query_of from tests project order)) (found first) (flat_map found firsts))
    ∙ map-append (λ (o : Output). o.1) (map (output (query_of from tests project order)) (found first)) (map (output (query_of from tests project order)) (flat_map found firsts))
    ∙ ap (λ rows. rows ++ map (λ (o : Output). o.1) (map (output (query_of from tests project order)) (flat_map found firsts))) (show_second from tests project order params first seconds)
    ∙ ap (λ rows. pairs_shown params tests project first seconds ++ rows) (show_pairs from tests project order params firsts seconds)

pub join_answer : (left right : ℕ) (tests project order : List Term) (db : Trees) (params : Row) (rows : List Row)
    → IsAnswer (query_of (inner left (inner right end)) tests project order) db params rows
    → IsPermutation (flat_map (λ first. pairs_shown params tests project first (db right)) (db left)) rows
join_answer left right tests project order db params rows answer =
    let query = query_of (inner left (inner right end)) tests project order in
    let values = λ (outputs : List Output). map (λ (o : Output). o.1) outputs in
    let kept : answer.kept ≡ map (output query) (matches db tests (inner left (inner right end)) (params ∷ [])) =
    answer.distinct ∙ ap (map (output query)) answer.grouped in
    let shuffled : IsPermutation (values answer.kept) (values answer.ordered) = IsPermutation-map (λ (o : Output). o.1) answer.kept answer.ordered answer.same in
    let from : IsPermutation (flat_map (λ first. pairs_shown params tests project first (db right)) (db left)) (values answer.ordered) =
    subst (λ xs. IsPermutation xs (values answer.ordered)) (ap values kept ∙ show_pairs (inner left (inner right end)) tests project order params (db left) (db right)) shuffled in
    subst (IsPermutation (flat_map (λ first. pairs_shown params tests project first (db right)) (db left))) (sym answer.shown) from
