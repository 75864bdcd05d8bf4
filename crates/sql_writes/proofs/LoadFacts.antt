-- Lists of rows that come one after the other, in the words of what a change makes.
use Rattle.std.proofs.Common.{ℕ, List, [], ◌∷◌, refl, sym, ap}
use Rattle.std.specs.Prelude.{fold}
use Rattle.std.proofs.lemmas.List.Sums.{fold_push}
use Rattle.std.proofs.lemmas.List.{map-append}
use Rattle.sql_tables.specs.Rows.{caller_row}
use Rattle.sql_tables.specs.Changes as changes
use Rattle.sql_tables.specs.Changes.{coming, published, without_caller}
use Rattle.sql_tables.specs.Stored.{caller_table}
use Rattle.sql_rows.proofs.TurnFacts.{ComesInTurn}

pub published_turn : ComesInTurn (λ stored. stored) (λ change stored. published stored change) (λ changes stored. fold published stored changes)
published_turn = record { none = λ stored. refl; more = λ xs x stored. sym (fold_push published stored xs x) }

-- callers leave nothing, and then others come
pub leaving_turn : ComesInTurn (caller_table.with_rows []) (λ name stored. without_caller stored name) (λ names stored. caller_table.with_rows [] (fold without_caller stored names))
leaving_turn = record { none = λ stored. refl; more = λ xs x stored. ap (caller_table.with_rows []) (sym (fold_push without_caller stored xs x)) }

pub callers_turn : (names : List (List ℕ)) → ComesInTurn (λ stored. caller_table.with_rows [] (fold without_caller stored names)) (λ caller. coming caller_table (caller_row caller ∷ [])) (changes.with_callers names)
callers_turn names = record {
  none = λ stored. refl;
  more = λ xs x stored. ap (λ rows. record (fold without_caller stored names) { callers = rows }) (sym (map-append caller_row xs (x ∷ [])));
}
