-- Whether the rows of callers that a text shows have the publisher among them, and so the tables.
use Rattle.std.proofs.Common.{◌≡◌, ◌↔◌, ◌∙◌, ◌||◌, ◌∷◌, [], Bool, IsTrue, List, None, Ok, Some, ap, ap₂, false, refl, subst, suc, sym, ℕ}
use Rattle.std.specs.Prelude.{Option, Vec, map, option_map, unwrap_or}
use Rattle.std.specs.declared.alloc.Global.{Global}
use Rattle.std.specs.List.{cons_option, filter_map, list_any}
use Rattle.std.specs.List.Sorted.{IsPermutation}
use Rattle.std.specs.Str.{bytes_eq}
use Rattle.std.proofs.lemmas.List.Sorted.{list_any-IsPermutation}
use Rattle.bureau_store.specs.Caller.{publisher_name}
use Rattle.bureau_store.specs.Callers.{has_publisher}
use Rattle.bureau_store.specs.declared.caller.CallerRow.{CallerRow}
use Rattle.sqlite.specs.Query.{IsAnswer}
use Rattle.sqlite.specs.State.{State}
use Rattle.sqlite_value.specs.Order.{Row, column}
use Rattle.sql_reads.specs.Answering.{Answers}
use Rattle.sql_reads.specs.Columns.{indices_of}
use Rattle.sql_tables.proofs.TreeFacts.{shown_after}
use Rattle.sql_tables.specs.InTrees.{columns_of}
use Rattle.sql_tables.specs.Ours.{held_by}
use Rattle.sql_tables.specs.Rows.{caller_found}
use Rattle.sql_tables.specs.Stored.{is_of, tables_of}
use Rattle.sql_tables.specs.Values.{id_in, text_in}
use Rattle.sql_texts.proofs.AnswerFacts.{table_answer}
use Rattle.sql_texts.specs.Found.{shown}
use Rattle.sql_texts.specs.Schema.{bureau}
use Rattle.sql_checks.proofs.ScanFacts.{every}
use Rattle.sql_checks.specs.Checked.{HasPublisher, Looks}
use Rattle.sql_checks.specs.Kept.{known_of, table_of}
use Rattle.sql_checks.specs.Known.{names_of, query_of}
use Rattle.sql_checks.specs.Refused.{IsAskedBy, of_rows}
use Rattle.sql_checks.specs.declared.table.StoreTable.TheVariants.{Caller}

-- one row more
one : (row : Row) (rest : List CallerRow) → has_publisher (cons_option (caller_found row) rest) ≡ (is_of publisher_name row || has_publisher rest)
one row rest = by (id_in (column row 0))
  where
    by : (found : Option (List ℕ)) → has_publisher (cons_option (option_map (λ name. record { name = name; token = text_in (column row 1) }) found) rest)
        ≡ (unwrap_or (option_map (λ name. bytes_eq name publisher_name) found) false || has_publisher rest)
    by None = refl
    by (Some name) = refl

-- rows have the publisher among them just where the callers that they stand for have
as_callers : (rows : List Row) → list_any (is_of publisher_name) rows ≡ has_publisher (filter_map caller_found rows)
as_callers [] = refl
as_callers (row ∷ rows) = ap (λ rest. is_of publisher_name row || rest) (as_callers rows) ∙ sym (one row (filter_map caller_found rows))

-- so do they as a text shows them
as_shown : (rows : List Row) → list_any (is_of publisher_name) (map (shown (map suc (indices_of (table_of Caller)))) rows) ≡ list_any (is_of publisher_name) (columns_of rows)
as_shown [] = refl
as_shown (row ∷ rows) = ap₂ (λ here rest. here || rest) (ap (is_of publisher_name) (sym (shown_after (indices_of (table_of Caller)) row))) (as_shown rows)

pub publisher_told : {Fault : Type 0} (text : List ℕ) → IsAskedBy (of_rows Caller) text → (old new : State) (rows : Vec Row Global) (seen : List Row) → seen ≡ rows.items
    → Answers {Fault = Fault} text [] old new (Ok rows) → (has : Bool) → has ≡ list_any (is_of publisher_name) seen
    → Looks {Answer = Bool} {Fault = Fault} old new (Ok has) (λ database has. IsTrue has ↔ HasPublisher database)
publisher_told text reads old new rows seen same answers has is = record {
  reads = answers.reads;
  is_open = λ clean is_open. answers.is_open clean;
  told = λ clean is_open made.
      let trees = old.committed.trees in
      let answer = subst (IsAnswer (query_of (known_of Caller)) trees []) (sym same) (answers.told clean bureau made (query_of (known_of Caller)) (names_of (known_of Caller)) 0 reads) in
      let columns = map suc (indices_of (table_of Caller)) in
      let permuted = subst (λ kept. IsPermutation (map (shown columns) kept) seen) (every (trees 1)) (table_answer 1 [] columns [] trees [] seen answer) in
      let also : has ≡ has_publisher (tables_of (held_by old.committed)).callers =
      is ∙ sym (list_any-IsPermutation (is_of publisher_name) (map (shown columns) (trees 1)) seen permuted) ∙ as_shown (trees 1) ∙ as_callers (columns_of (trees 1)) in
      (λ yes. sym also ∙ yes, λ there. also ∙ there);
}
