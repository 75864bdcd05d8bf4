-- What a query that counts answers, and what it says of the tables.
use Rattle.std.proofs.Common.{◌≡◌, ◌<◌, ℕ, Ok, Result, suc, Bool, true, false, cond, List, [], ◌∷◌, ◌++◌, length, drop, arith, refl, sym, ◌∙◌, ap, subst, Some}
use Rattle.std.specs.Prelude.{IfOk, Vec, codes, filter, flat_map, map, min}
use Rattle.std.specs.declared.alloc.Global.{Global}
use Rattle.std.specs.List.{AllZip, list_all}
use Rattle.std.specs.List.Sorted.{IsPermutation}
use Rattle.std.proofs.lemmas.List.{length-map}
use Rattle.std.proofs.lemmas.List.Sorted.{length_permutation}
use Rattle.mcs_reader.specs.Id.{IsId, text_of}
use Rattle.sqlite.proofs.Callers.{one_permutation}
use Rattle.sqlite.specs.Query.{IsAnswer, Output, Query, output}
use Rattle.sqlite.specs.State.{State}
use Rattle.sqlite.specs.Term.{Term, lit}
use Rattle.sqlite.specs.Tree.{Trees}
use Rattle.sqlite_sql.specs.Aggregate.{count}
use Rattle.sqlite_sql.specs.Group.{Grouping, IsSummary, value_over}
use Rattle.sqlite_sql.specs.Query.{end, inner, matches, page}
use Rattle.sqlite_sql.specs.Term.{Env, eval, holds}
use Rattle.sqlite_value.specs.Order.{Row, column}
use Rattle.sqlite_value.specs.declared.value.Value.TheVariants.{Null, Text}
use Rattle.sql_tables.specs.InTrees.{columns_of, stored_in}
use Rattle.sql_tables.specs.Stored.{Stored, is_of, tables_of}
use Rattle.sql_tables.specs.Values.{number_in}
use Rattle.sql_tables.specs.Whole.{IsWhole}
use Rattle.sql_tables.proofs.TreeFacts.{filter_after}
use Rattle.sql_texts.specs.Found.{passes}
use Rattle.sql_texts.specs.Meaning.{Reads}
use Rattle.sql_texts.specs.Schema.{bureau}
use Rattle.sql_texts.specs.Reads as read
use Rattle.sql_texts.specs.Reads.{count_of, how_many}
use Rattle.sql_tables.specs.Reading.{Finds}
use Rattle.sql_reads.specs.Answering.{Answers, one_of}
use Rattle.sql_reads.specs.Counts.{Counts}
use Rattle.sql_reads.proofs.LengthFacts.{holds_length, sysmods_length, zones_length}
use Rattle.sql_reads.proofs.TableFacts.{finds_of_two}
use Rattle.sql_tables.proofs.TextFacts.{of_given}

abbrev all_rows : Grouping
all_rows = record { keys = []; collations = []; aggregates = how_many ∷ []; having = [] }

-- the one group has one row, its count
one_value : (group : List Env) (values : Row) → AllZip (λ a v. value_over group a ≡ Some v) (how_many ∷ []) values → values ≡ count (length group) ∷ []
one_value group [] h = absurd h
one_value group (v ∷ []) h =
    let e : Some (count (length (map (eval (lit Null)) group))) ≡ Some v = h.0 in
    let same : count (length (map (eval (lit Null)) group)) ≡ v = cc in
    ap (λ x. x ∷ []) (sym same ∙ ap count (length-map group (eval (lit Null))))
one_value group (v ∷ w ∷ values) h = absurd h.1

one_summary : (group : List Env) (rows : List Row) → AllZip (IsSummary all_rows) (group ∷ []) rows → rows ≡ (count (length group) ∷ []) ∷ []
one_summary group [] h = absurd h
one_summary group (row ∷ []) h = ap (λ r. r ∷ []) (h.0.2 ∙ one_value group h.0.0 h.0.1)
one_summary group (row ∷ other ∷ rows) h = absurd h.1

matches_length : (tests : List Term) (params : Row) (rows : List Row)
    → length (flat_map (λ row. cond (list_all (holds (params ∷ row ∷ [])) tests) ((params ∷ row ∷ []) ∷ []) []) rows) ≡ length (filter (passes params tests) rows)
matches_length tests params [] = refl
matches_length tests params (row ∷ rows) = by (list_all (holds (params ∷ row ∷ [])) tests) (matches_length tests params rows)
  where
    by : (b : Bool) → length (flat_map (λ r. cond (list_all (holds (params ∷ r ∷ [])) tests) ((params ∷ r ∷ []) ∷ []) []) rows) ≡ length (filter (passes params tests) rows)
        → length (cond b ((params ∷ row ∷ []) ∷ []) [] ++ flat_map (λ r. cond (list_all (holds (params ∷ r ∷ [])) tests) ((params ∷ r ∷ []) ∷ []) []) rows)
        ≡ length (cond b (row ∷ filter (passes params tests) rows) (filter (passes params tests) rows))
    by true rest = ap suc rest
    by false rest = rest

pub count_answer : (tree : ℕ) (tests : List Term) (db : Trees) (params : Row) (rows : List Row) → IsAnswer (count_of tree tests) db params rows
    → rows ≡ (count (length (filter (passes params tests) (db tree))) ∷ []) ∷ []
count_answer tree tests db params rows answer =
    let query = count_of tree tests in
    let all = matches db tests (inner tree end) (params ∷ []) in
    let s = answer.grouped in
    let order = s.grouping.0 in
    let summary : s.rows ≡ (count (length order) ∷ []) ∷ [] = one_summary order s.rows (subst (λ groups. AllZip (IsSummary all_rows) groups s.rows) s.grouping.2 s.summaries) in
    let many : length order ≡ length (filter (passes params tests) (db tree)) = length_permutation all order s.grouping.1 ∙ matches_length tests params (db tree) in
    let staged : answer.staged ≡ (params ∷ (count (length order) ∷ []) ∷ []) ∷ [] =
    s.having ∙ ap (λ rs. filter (λ env. list_all (holds env) []) (map (λ r. params ∷ r ∷ []) rs)) summary in
    let kept : answer.kept ≡ ([], count (length order) ∷ []) ∷ [] = answer.distinct ∙ ap (map (output query)) staged in
    let ordered : answer.ordered ≡ ([], count (length order) ∷ []) ∷ [] =
    one_permutation ([], count (length order) ∷ []) answer.ordered (subst (λ k. IsPermutation k answer.ordered) kept answer.same) in
    answer.shown ∙ ap (λ outputs. page query params (map (λ (o : Output). o.1) outputs)) ordered ∙ ap (λ n. (count n ∷ []) ∷ []) many

abbrev pub most : ℕ
most = 9223372036854775807

min_below : (n m : ℕ) → min n m < m → min n m ≡ n
min_below n m h = omega (arith, h)

-- the number that a row has, where it isn't the greatest
pub counted : (many found : ℕ) (rows : List Row) → rows ≡ (count many ∷ []) ∷ [] → one_of (λ row. number_in (column row 0)) rows ≡ Some (Some found) → found < most → found ≡ many
counted many found rows is said below =
    let e : Some (Some (min many most)) ≡ Some (Some found) = sym (ap (one_of (λ row. number_in (column row 0))) is) ∙ said in
    let same : min many most ≡ found = cc in
    sym same ∙ min_below many most (subst (λ n. n < most) (sym same) below)

map_length : (rows : List Row) → length (columns_of rows) ≡ length rows
map_length rows = length-map rows (drop 1)

module _ (trees : Trees) (rows : List Row) (found : ℕ) (whole : IsWhole (stored_in trees)) (said : one_of (λ row. number_in (column row 0)) rows ≡ Some (Some found)) (below : found < most) where
  every : (xs : List Row) → length (filter (passes [] []) xs) ≡ length xs
  every [] = refl
  every (x ∷ xs) = ap suc (every xs)

  pub sysmods_counted : IsAnswer read.sysmod_count trees [] rows → found ≡ length (tables_of (stored_in trees)).content.sysmods
  sysmods_counted answer =
      counted (length (filter (passes [] []) (trees 6))) found rows (count_answer 6 [] trees [] rows answer) said below
      ∙ every (trees 6) ∙ sym (map_length (trees 6)) ∙ sym (sysmods_length (stored_in trees) whole)

  pub holds_counted : IsAnswer read.hold_count trees [] rows → found ≡ length (tables_of (stored_in trees)).content.holds
  holds_counted answer =
      counted (length (filter (passes [] []) (trees 11))) found rows (count_answer 11 [] trees [] rows answer) said below
      ∙ every (trees 11) ∙ sym (map_length (trees 11)) ∙ sym (holds_length (stored_in trees) whole)

  pub zones_counted : (client : List ℕ) → IsId client → IsAnswer read.zone_count trees (Text (text_of client) ∷ []) rows → found ≡ length ((tables_of (stored_in trees)).zones client)
  zones_counted client is answer =
      let tests = read.is_given 1 0 ∷ [] in
      let params = Text (text_of client) ∷ [] in
      counted (length (filter (passes params tests) (trees 13))) found rows (count_answer 13 tests trees params rows answer) said below
      ∙ sym (map_length (filter (passes params tests) (trees 13)))
      ∙ ap length (filter_after (passes params tests) (is_of client) (of_given client is) (trees 13))
      ∙ sym (zones_length (stored_in trees) whole client)

-- ---- what a read that counts finds

pub count_found : {Fault : Type 0} (text : List ℕ) (params asked : Row) → params ≡ asked → (old new : State) (query : Query) (parameters : ℕ)
    → Reads bureau text query (codes "count(*)" ∷ []) parameters → (rows : Vec Row Global) (seen : List Row) → seen ≡ rows.items → Answers {Fault = Fault} text params old new (Ok rows)
    → (result : Result ℕ Fault) → IfOk result (λ found. one_of (λ row. number_in (column row 0)) seen ≡ Some (Some found)) → IfOk result (λ found. found < most)
    → (many : Stored → ℕ) → Counts query asked many → Finds old new result (λ stored found. found ≡ many stored)
count_found text params asked same_params old new query parameters reads rows seen same answers result count below many law =
    finds_of_two text params asked same_params old new query (codes "count(*)" ∷ []) parameters reads rows seen same answers result
    (λ found. one_of (λ row. number_in (column row 0)) seen ≡ Some (Some found)) (λ found. found < most) count below
    (λ stored found. found ≡ many stored) (λ ours answer found said under. law old.committed.trees seen found ours.rows.whole said under answer)
