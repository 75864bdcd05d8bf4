-- What is found of callers.
use Rattle.std.proofs.Common.{◌≡◌, ℕ, List, [], ◌∷◌, refl, sym, ◌∙◌, ap, subst, inl, inr, Some, None, true}
use Rattle.std.specs.Prelude.{filter, map, Option, option_map}
use Rattle.std.specs.List.{AllByRecursion, filter_map}
use Rattle.std.specs.List.Sorted.{IsPermutation}
use Rattle.sqlite.specs.Query.{IsAnswer}
use Rattle.sqlite.specs.Tree.{Trees}
use Rattle.sqlite_value.specs.Order.{Row, column}
use Rattle.sqlite_value.specs.declared.value.Value.TheVariants.{Text}
use Rattle.bureau_store.specs.Caller.{caller_named, caller_with}
use Rattle.bureau_store.specs.declared.caller.Caller.{Caller}
use Rattle.bureau_store.specs.declared.caller.CallerRow.{CallerRow}
use Rattle.mcs_reader.specs.Id.{IsId}
use Rattle.sql_tables.specs.InTrees.{columns_of, stored_in}
use Rattle.sql_tables.specs.Rows.{caller_found, caller_row}
use Rattle.sql_tables.specs.Stored.{has_token, tables_of}
use Rattle.sql_tables.specs.Values.{id_in}
use Rattle.sql_tables.specs.Whole.{AreRowsOf, IsWhole}
use Rattle.sql_tables.proofs.CallerFacts.{no_caller, one_caller}
use Rattle.sql_tables.proofs.TreeFacts.{column_after}
use Rattle.sql_texts.specs.Found.{is_text, shown}
use Rattle.sql_texts.specs.Reads as read
use Rattle.sql_reads.specs.Answering.{one_of}
use Rattle.sql_reads.proofs.ClientFacts.{table_said}
use Rattle.sql_reads.proofs.TableFacts.{filter_alike, filter_true, one_case, one_passes, table_found}
use Rattle.sql_tables.proofs.TextFacts.{one_given}

abbrev pub name_shown : Row → Option Caller
name_shown row = option_map caller_named (id_in (column row 0))

named_as : (o : Option (List ℕ)) (caller : Caller) → option_map caller_named o ≡ Some caller → (name : List ℕ) × (o ≡ Some name) × (caller_named name ≡ caller)
named_as None caller h = cc
named_as (Some name) caller h = let e : caller_named name ≡ caller = cc in (name, refl, e)

-- the token of a row that the bureau wrote is a text
tokens_alike : (token : List ℕ) (rows : List Row) → AreRowsOf caller_row (λ (caller : CallerRow). IsId caller.name) rows → AllByRecursion (λ row. is_text token (column row 1) ≡ has_token token row) rows
tokens_alike token [] all = tt
tokens_alike token (row ∷ rows) all = (rw all.0.2 refl, tokens_alike token rows all.1)

pub caller_told : (trees : Trees) (token : List ℕ) (rows : List Row) (found : Option Caller) → IsWhole (stored_in trees) → IsAnswer (read.from_table 1 (read.is_given 2 0 ∷ []) (1 ∷ []) (1 ∷ [])) trees (Text token ∷ []) rows
    → one_of name_shown rows ≡ Some found → found ≡ caller_with (tables_of (stored_in trees)).callers token
caller_told trees token rows found whole answer one =
    let callers = columns_of (trees 1) in
    let permuted = subst (λ kept. IsPermutation (map (shown (0 ∷ [])) kept) rows)
    (filter_alike (λ row. is_text token (column row 1)) (has_token token) callers (tokens_alike token callers whole.callers))
    (table_found 1 (read.is_given 2 0 ∷ []) (0 ∷ []) (1 ∷ []) (Text token ∷ []) trees rows (λ row. is_text token (column row 1)) (λ row. one_given 2 token row ∙ ap (is_text token) (sym (column_after row 1))) answer) in
    elim (one_case name_shown (shown (0 ∷ [])) (filter (has_token token) callers) rows found permuted one) [
      | inl none ↦ none.1 ∙ sym (no_caller callers token none.0)
      | inr its ↦
          (let name = named_as (id_in (column its.0 0)) its.2 its.3 in
          its.4 ∙ ap Some (sym name.2) ∙ sym (one_caller callers token its.0 name.0 its.1 (one_passes (has_token token) callers its.0 its.1) name.1))
    ]

-- all callers
pub callers_told : (trees : Trees) (rows : List Row) (found : List CallerRow) → IsAnswer read.callers trees [] rows → map Some found ≡ map caller_found rows
    → IsPermutation (tables_of (stored_in trees)).callers found
callers_told trees rows found answer said =
    let callers = columns_of (trees 1) in
    subst (λ kept. IsPermutation (filter_map caller_found kept) found) (filter_true callers)
    (table_said caller_found (shown (0 ∷ 1 ∷ [])) (filter (λ row. true) callers) rows found (table_found 1 [] (0 ∷ 1 ∷ []) (1 ∷ []) [] trees rows (λ row. true) (λ row. refl) answer) said)
