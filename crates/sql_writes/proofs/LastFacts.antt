-- A change by its effect, and then its number and its reply.
use Rattle.std.proofs.Common.{◌≡◌, ℕ, List, [], ◌∷◌, Result, Ok, ap, subst, sym, ◌∙◌}
use Rattle.std.specs.Prelude.{Option, Some}
use Rattle.bureau_store.specs.Effect as store
use Rattle.bureau_store.specs.Tables.{LastChange}
use Rattle.bureau_store.specs.declared.caller.Caller.{Caller}
use Rattle.sqlite.specs.State.{State}
use Rattle.sql_tables.specs.Changes as change
use Rattle.sql_tables.specs.Changes.{changed, coming, going, stored_after}
use Rattle.sql_tables.specs.Rows.{change_row}
use Rattle.sql_tables.specs.Stored.{change_table, is_of, name_of}
use Rattle.sql_tables.specs.Writing.{Changes}
use Rattle.bureau_store.specs.Effects.{effect_as, maker_of}
use Rattle.bureau_store.specs.declared.effect.Effect.{Effect}
use Rattle.sql_rows.proofs.ChangeFacts.{both, changes_then}
use Rattle.sql_rows.proofs.StoredFacts.{replaced_then}

-- what an effect changes, told of the same effect
pub by_effect : {A F : Type 0} (old new : State) (result : Result A F) (effect same : Effect) → effect ≡ same
    → Changes old new result (changed (maker_of same) (effect_as same)) → Changes old new result (changed (maker_of effect) (effect_as effect))
by_effect old new result effect same is = subst (λ it. Changes old new result (changed (maker_of it) (effect_as it))) (sym is)

-- a change, and then its number and its reply under the name of whoever makes it
pub last_after : {A B C E F G : Type 0} (old mid between new : State) (a : A) (b : B) (result : Result C G) (caller : Caller) (effect : store.Effect) (name : List ℕ) (last : LastChange)
    → name_of caller ≡ Some name → Changes {Fault = E} old mid (Ok a) (changed caller effect) → Changes {Fault = F} mid between (Ok b) (going change_table (is_of name))
    → Changes between new result (coming change_table (change_row name last ∷ [])) → Changes old new result (stored_after caller effect last)
last_after old mid between new a b result caller effect name last is one two three =
    let first = changed caller effect in
    both old between new b result (λ stored. going change_table (is_of name) (first stored)) (coming change_table (change_row name last ∷ [])) (stored_after caller effect last)
    (λ stored. ap (λ rows. record (first stored) { changes = rows })
    (replaced_then (is_of name) (change_row name last ∷ []) (first stored).changes
    ∙ ap (λ (named : Option (List ℕ)). change.with_last named last (first stored).changes) (sym is)))
    (changes_then old mid between a (Ok b) first (going change_table (is_of name)) one two) three
