-- A caller comes after those before it, in tables that were made with those.
use Rattle.std.proofs.Common.{◌≡◌, ◌≤◌, ◌<◌, ◌+◌, ◌++◌, ℕ, zero, suc, List, [], ◌∷◌, Some, Result, Ok, length, take, get_or, refl, sym, ◌∙◌, ap, subst, arith}
use Rattle.std.specs.Prelude.{map, slice_get}
use Rattle.std.specs.List.{range_with_len}
use Rattle.std.proofs.lemmas.List.{map-append, take_more}
use Rattle.bureau_store.specs.declared.caller.CallerRow.{CallerRow}
use Rattle.sqlite.specs.Edit.{next_rowid}
use Rattle.sqlite.specs.State.{Executes, State}
use Rattle.sqlite.specs.Term.{col, lit}
use Rattle.sqlite.specs.Values.{bound, bound_value}
use Rattle.sqlite.specs.declared.error.Error.{Error}
use Rattle.sqlite.specs.declared.types.Value.TheVariants.{Int, Null, Text}
use Rattle.sqlite_schema.specs.Rules.{Keeps}
use Rattle.sqlite_schema.specs.declared.schema.Constraint.TheVariants.{Unique}
use Rattle.sqlite_value.specs.Value.{owned}
use Rattle.sqlite_value.specs.declared.value.ValueRef.{ValueRef}
use Rattle.sql_texts.specs.Meaning.{Means, parameter}
use Rattle.sql_texts.specs.Schema as schema
use Rattle.sql_texts.specs.Schema.{bureau}
use Rattle.sql_texts.specs.Writes.{insert_given}
use Rattle.sql_tables.specs.Rows.{caller_row}
use Rattle.sql_tables.specs.Stored.{Stored, opened}
use Rattle.sql_tables.specs.Values.{id_value}
use Rattle.sql_tables.specs.Ours.{held_by}
use Rattle.sql_writes.specs.Excused.{IsExcused}
use Rattle.sql_writes.specs.Making.{AreFit, IsOpened, Leads}
use Rattle.sql_rows.specs.Running.{FailsInside, Ran}
use Rattle.sql_writes.proofs.CallerFacts.{caller_sound, next_from, rows_more}
use Rattle.sql_writes.proofs.ExcuseFacts.{excused_by}
use Rattle.sql_writes.proofs.MakeFacts.{leads_by}
use Rattle.sql_writes.proofs.RuleFacts.{insert_stops}
use Rattle.sql_rows.proofs.StatementFacts.{cast_null, inserts}
use Rattle.sql_rows.proofs.StoredFacts.{come, held_set, known_after}

module _ (text : List ℕ) (old new : State) (result : Result (Unit {0}) Error) (row : CallerRow) (a b : ValueRef) (at_a : owned a ≡ id_value row.name) (at_b : owned b ≡ Text row.token)
    (means : Means bureau text (insert_given 1 2) 2) (before : List CallerRow) where
  given : bound (a ∷ b ∷ []) ≡ caller_row row
  given = λ i. bound_value (at_a i) ∷ bound_value (at_b i) ∷ []

  comes : (count : ℕ) → Executes text (caller_row row) old new (Ok count) → IsOpened before old.now → IsOpened (before ++ row ∷ []) new.now
  comes count executes from =
      let rows = old.now.trees 1 in
      let values = caller_row row in
      let set = inserts text 1 schema.caller 2 values values old new count means refl refl refl (λ i. cast_null i ∷ caller_row row) from.known.schema from.known.numbered.1.0 executes in
      record {
        known = known_after 1 _ old.now new.now from.known.numbered set;
        version = set.others.0 (λ e. omega (arith, e)) ∙ from.version;
        callers_are = set.rows_are ∙ (λ i. from.callers_are i ++ (Int ((ap next_rowid from.callers_are ∙ next_from 1 before) i) ∷ caller_row row) ∷ []) ∙ rows_more 1 before row;
        held = held_set 1 _ old.now new.now set ∙ ap (λ all. record (held_by old.now) { callers = all }) (come rows (Int (next_rowid rows) ∷ values))
            ∙ ap (λ (held : Stored). record held { callers = held.callers ++ map caller_row (row ∷ []) }) from.held ∙ ap opened (sym (map-append caller_row before (row ∷ [])));
      }

  pub caller_comes : Ran text (bound (a ∷ b ∷ [])) old new result → Leads old new result (IsOpened before) (IsOpened (before ++ row ∷ []))
  caller_comes ran = leads_by text (caller_row row) old new result (IsOpened before) (IsOpened (before ++ row ∷ [])) (subst (λ params. Ran text params old new result) given ran) comes

  pub caller_excused : AreFit (before ++ row ∷ []) → FailsInside text (bound (a ∷ b ∷ [])) old new result → IsExcused old new result (IsOpened before)
  caller_excused fit fails =
      excused_by text old new result (IsOpened before) bureau (insert_given 1 2) (map parameter (range_with_len 1 2)) (caller_row row) (λ database from. from.known.schema) means.statement refl refl
      (λ from stop h. insert_stops old text 1 schema.caller (lit Null ∷ col 0 0 ∷ col 0 1 ∷ []) 3 (caller_row row) ((Null ∷ caller_row row) ∷ []) from.known.schema refl refl refl refl
      (caller_sound old.now.trees before row (subst (λ s. Keeps Unique s old.now.trees) from.known.schema (from.known.sound.obeys.rules Unique)) from.callers_are from.known.numbered.1.0 fit) stop h)
      (subst (λ params. FailsInside text params old new result) given fails)

-- ---- the first of callers that are fit

got_before : (n : ℕ) (callers : List CallerRow) (i : ℕ) (one : CallerRow) → slice_get (take n callers) i ≡ Some one → slice_get callers i ≡ Some one
got_before zero callers i one got = absurd (cc)
got_before (suc n) [] i one got = got
got_before (suc n) (first ∷ callers) zero one got = got
got_before (suc n) (first ∷ callers) (suc i) one got = got_before n callers i one got

no_more : (n : ℕ) (callers : List CallerRow) → length (take n callers) ≤ length callers
no_more zero callers = omega arith
no_more (suc n) [] = omega arith
no_more (suc n) (first ∷ callers) = let it = no_more n callers in omega (arith, it)

fit_first : (callers : List CallerRow) (n : ℕ) → AreFit callers → AreFit (take n callers)
fit_first callers n fit = record {
  names = λ i j one other here there same. fit.names i j one other (got_before n callers i one here) (got_before n callers j other there) same;
  tokens = λ i j one other here there same. fit.tokens i j one other (got_before n callers i one here) (got_before n callers j other there) same;
  short = λ i one here. fit.short i one (got_before n callers i one here);
  few = let most = fit.few in let size = no_more n callers in omega (arith, most, size);
}

pub next_taken : (callers : List CallerRow) (i : ℕ) (one : CallerRow) → i < length callers → one ≡ get_or callers i one → take i callers ++ one ∷ [] ≡ take (i + 1) callers
next_taken callers i one low at = ap (λ it. take i callers ++ it ∷ []) at ∙ sym (take_more callers i one low)

pub fit_next : (callers : List CallerRow) (i : ℕ) (one : CallerRow) → i < length callers → one ≡ get_or callers i one → AreFit callers → AreFit (take i callers ++ one ∷ [])
fit_next callers i one low at fit = subst AreFit (sym (next_taken callers i one low at)) (fit_first callers (i + 1) fit)
