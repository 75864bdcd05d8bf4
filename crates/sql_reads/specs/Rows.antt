-- No part of what is promised: the meaning of the one row of a key.
use Rattle.std.specs.Prelude.{◌≡◌, ℕ, List, [], ◌∷◌, Option, None, Some, cond, filter, is_some, option_and_then, option_map, refl, true, unwrap_or}
use Rattle.std.specs.List.{filter_map}
use Rattle.std.specs.List.Sorted.{IsPermutation}
use Rattle.std.proofs.Common.{◌∙◌, ap, subst, sym}
use Rattle.sqlite_value.specs.Order.{Row, column}
use Rattle.bureau_store.specs.Tables as tables
use Rattle.bureau_store.specs.Tables.{zone_named}
use Rattle.sql_tables.specs.Stored.{Stored, first, is_of_both, patterns_of, tables_of, zone_of}
use Rattle.sql_tables.specs.Values.{patterns_in}
use Rattle.sql_tables.proofs.ClientFacts.{zone_found}
use Rattle.sql_tables.proofs.ListFacts.{any_first}

-- the meaning of a row as it is shown
pub said_of_shown : {A : Type 0} (read : Row → Option A) (show : Row → Row) (default : A) (row : Option Row) (said : A)
    → said ≡ unwrap_or (option_and_then read (option_map show row)) default
    → said ≡ unwrap_or (option_and_then (λ r. read (show r)) row) default
said_of_shown read show default None said is = is
said_of_shown read show default (Some row) said is = is

-- the patterns of a zone are those of its row
pub patterns_said : (stored : Stored) (client zone : List ℕ) (patterns : List (List ℕ))
    → patterns ≡ patterns_of stored.heads client zone
    → patterns ≡ tables.patterns_of (zone_named zone ((tables_of stored).zones client))
patterns_said stored client zone patterns is =
    is ∙ sym (ap tables.patterns_of (zone_found stored client zone)
    ∙ ap (λ b. tables.patterns_of (cond b (Some (zone_of stored client zone)) None)) (any_first (is_of_both client zone) stored.heads)
    ∙ by (filter (is_of_both client zone) stored.heads) refl)
  where
    by : (xs : List Row) → filter (is_of_both client zone) stored.heads ≡ xs
        → tables.patterns_of (cond (is_some (first xs)) (Some (zone_of stored client zone)) None) ≡ patterns_of stored.heads client zone
    by [] none = sym (ap (λ rows. unwrap_or (option_and_then (λ row. patterns_in (column row 2)) (first rows)) []) none)
    by (x ∷ xs) some = refl

-- the meaning of all rows
pub said_of_all : {A : Type 0} (read : Row → Option A) (rows : List Row) (said : List A)
    → IsPermutation (filter_map read (filter (λ row. true) rows)) said → IsPermutation (filter_map read rows) said
said_of_all read rows said = subst (λ kept. IsPermutation (filter_map read kept) said) (all_kept rows)
  where
    all_kept : (xs : List Row) → filter (λ row. true) xs ≡ xs
    all_kept [] = refl
    all_kept (x ∷ xs) = ap (λ others. x ∷ others) (all_kept xs)
