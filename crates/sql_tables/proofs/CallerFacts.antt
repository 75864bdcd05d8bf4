-- Which caller a token finds among the rows.
use Rattle.std.proofs.Common.{◌≡◌, ℕ, Bool, true, false, cond, List, [], ◌∷◌, refl, sym, ◌∙◌, ap}
use Rattle.std.specs.Prelude.{filter, find, Option, Some, None, option_map}
use Rattle.std.specs.List.{cons_option, filter_map}
use Rattle.catalogue.specs.Ids.{same_id}
use Rattle.bureau_store.specs.Caller.{caller_named, caller_with}
use Rattle.bureau_store.specs.declared.caller.CallerRow.{CallerRow}
use Rattle.sqlite_value.specs.Order.{Row, column}
use Rattle.sql_tables.specs.Rows.{caller_found}
use Rattle.sql_tables.specs.Stored.{has_token}
use Rattle.sql_tables.specs.Values.{id_in, text_in}

token_own : (row : Row) (caller : CallerRow) → caller_found row ≡ Some caller → text_in (column row 1) ≡ caller.token
token_own row caller h = by (id_in (column row 0)) h
  where
    by : (o : Option (List ℕ)) → option_map (λ name. record { name = name; token = text_in (column row 1) }) o ≡ Some caller → text_in (column row 1) ≡ caller.token
    by None h = cc
    by (Some name) h = ap (λ (o : Option CallerRow). token_in o) h
      where
        token_in : Option CallerRow → List ℕ
        token_in None = []
        token_in (Some c) = c.token

-- only the rows with the token count
tokens_by : (rows : List Row) (token : List ℕ)
    → find (λ caller. same_id caller.token token) (filter_map caller_found rows) ≡ find (λ caller. same_id caller.token token) (filter_map caller_found (filter (has_token token) rows))
tokens_by [] token = refl
tokens_by (row ∷ rows) token = by (caller_found row) refl (has_token token row) refl (tokens_by rows token)
  where
    by : (o : Option CallerRow) → caller_found row ≡ o → (b : Bool) → has_token token row ≡ b
        → find (λ caller. same_id caller.token token) (filter_map caller_found rows) ≡ find (λ caller. same_id caller.token token) (filter_map caller_found (filter (has_token token) rows))
        → find (λ caller. same_id caller.token token) (cons_option (caller_found row) (filter_map caller_found rows))
        ≡ find (λ caller. same_id caller.token token) (filter_map caller_found (cond b (row ∷ filter (has_token token) rows) (filter (has_token token) rows)))
    by None is true at rest =
        ap (λ o. find (λ (c : CallerRow). same_id c.token token) (cons_option o (filter_map caller_found rows))) is ∙ rest
        ∙ sym (ap (λ o. find (λ (c : CallerRow). same_id c.token token) (cons_option o (filter_map caller_found (filter (has_token token) rows)))) is)
    by None is false at rest = ap (λ o. find (λ (c : CallerRow). same_id c.token token) (cons_option o (filter_map caller_found rows))) is ∙ rest
    by (Some caller) is true at rest =
        ap (λ o. find (λ (c : CallerRow). same_id c.token token) (cons_option o (filter_map caller_found rows))) is
        ∙ ap (cond (same_id caller.token token) (Some caller)) rest
        ∙ sym (ap (λ o. find (λ (c : CallerRow). same_id c.token token) (cons_option o (filter_map caller_found (filter (has_token token) rows)))) is)
    by (Some caller) is false at rest =
        ap (λ o. find (λ (c : CallerRow). same_id c.token token) (cons_option o (filter_map caller_found rows))) is
        ∙ ap (λ b. cond b (Some caller) (find (λ (c : CallerRow). same_id c.token token) (filter_map caller_found rows))) (sym (ap (λ t. same_id t token) (token_own row caller is)) ∙ at)
        ∙ rest

pub no_caller : (rows : List Row) (token : List ℕ) → filter (has_token token) rows ≡ [] → caller_with (filter_map caller_found rows) token ≡ None
no_caller rows token none =
    ap (option_map (λ (c : CallerRow). caller_named c.name)) (tokens_by rows token ∙ ap (λ rs. find (λ (c : CallerRow). same_id c.token token) (filter_map caller_found rs)) none)

pub one_caller : (rows : List Row) (token : List ℕ) (row : Row) (name : List ℕ) → filter (has_token token) rows ≡ row ∷ [] → has_token token row ≡ true
    → id_in (column row 0) ≡ Some name → caller_with (filter_map caller_found rows) token ≡ Some (caller_named name)
one_caller rows token row name one has is =
    ap (option_map (λ (c : CallerRow). caller_named c.name)) (
    tokens_by rows token
    ∙ ap (λ rs. find (λ (c : CallerRow). same_id c.token token) (filter_map caller_found rs)) one
    ∙ ap (λ o. find (λ (c : CallerRow). same_id c.token token) (cons_option (option_map (λ n. record { name = n; token = text_in (column row 1) }) o) [])) is
    ∙ ap (λ b. cond b (Some (record { name = name; token = text_in (column row 1) })) None) has
    )
