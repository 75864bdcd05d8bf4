-- What the rules of a table say of its rows: how many columns a row has, and that no two rows have one key.
use Rattle.std.proofs.Common.{◌≡◌, ℕ, zero, suc, ◌+◌, ◌||◌, true, List, [], ◌∷◌, length, drop, refl, sym, ap, subst, add-one, None}
use Rattle.std.specs.Prelude.{not}
use Rattle.std.specs.List.{AllByRecursion}
use Rattle.std.proofs.lemmas.Bool.{and_parts}
use Rattle.sqlite_schema.specs.Names.{is_key}
use Rattle.sqlite_schema.specs.Rules.{are_present, are_typed, suits}
use Rattle.sqlite_schema.specs.declared.schema.Column.{Column}
use Rattle.sqlite_sql.specs.Ops.{is_null}
use Rattle.sqlite_value.specs.Order.{Row, column}
use Rattle.sqlite_value.specs.declared.value.Value.{Value}
use Rattle.sqlite_value.specs.declared.value.Value.TheVariants.{Null}

-- past its end a row reads as NULL
past : (n : ℕ) (row : Row) → drop n row ≡ [] → column row n ≡ Null
past zero [] e = refl
past zero (v ∷ row) e = cc
past (suc n) [] e = refl
past (suc n) (v ∷ row) e = past n row e

later : (n : ℕ) (row : Row) (v : Value) (rest : Row) → drop n row ≡ v ∷ rest → drop (suc n) row ≡ rest
later zero [] v rest e = cc
later zero (x ∷ row) v rest e = cc
later (suc n) [] v rest e = cc
later (suc n) (x ∷ row) v rest e = later n row v rest e

abbrev pub AreRequired : List Column → Type 0
AreRequired = AllByRecursion (λ c. c.not_null ≡ true)

full_from : (columns : List Column) → AreRequired columns → (at : ℕ) (row rest : Row) → drop (suc at) row ≡ rest
    → are_typed None at columns rest ≡ true → are_present None at columns row ≡ true → length rest ≡ length columns
full_from [] required at row [] e typed present = refl
full_from [] required at row (v ∷ rest) e typed present = cc
full_from (c ∷ cs) required at row [] e typed present =
    let none : column row (at + 1) ≡ Null = subst (λ n. column row n ≡ Null) (sym (add-one at)) (past (suc at) row e) in
    let here = (and_parts (is_key None at || not c.not_null || not (is_null (column row (at + 1)))) (are_present None (at + 1) cs row) present).0 in
    let null = subst (λ v. (is_key None at || not c.not_null || not (is_null v)) ≡ true) none here in
    let never : (is_key None at || not true || not (is_null Null)) ≡ true = subst (λ b. (is_key None at || not b || not (is_null Null)) ≡ true) required.0 null in cc
full_from (c ∷ cs) required at row (v ∷ rest) e typed present =
    let others = (and_parts (suits c v) (are_typed None (at + 1) cs rest) typed).1 in
    let there = (and_parts (is_key None at || not c.not_null || not (is_null (column row (at + 1)))) (are_present None (at + 1) cs row) present).1 in
    ap suc (full_from cs required.1 (suc at) row rest (later (suc at) row v rest e)
    (subst (λ n. are_typed None n cs rest ≡ true) (add-one at) others) (subst (λ n. are_present None n cs row ≡ true) (add-one at) there))

-- a row that a table without a key takes has each of its columns, where none may be NULL
pub full : (columns : List Column) → AreRequired columns → (row : Row) → are_typed None 0 columns (drop 1 row) ≡ true → are_present None 0 columns row ≡ true
    → length (drop 1 row) ≡ length columns
full columns required row = full_from columns required 0 row (drop 1 row) refl
