-- Why the statements that make tables are refused, one after the other.
use Rattle.std.proofs.Common.{◌≡◌, ◌≤◌, ℕ, pos, true, false, List, [], ◌∷◌, Option, None, Some, Result, Ok, Err, IsTrue, length, refl, sym, ◌∙◌, ap, subst, inl, inr, arith}
use Rattle.std.specs.Prelude.{IsSome, slice_get}
use Rattle.std.specs.Result.{IsErrAnd}
use Rattle.std.specs.List.{AllByRecursion}
use Rattle.std.proofs.lemmas.Bool.{false≢true}
use Rattle.sqlite.specs.Command.{Command}
use Rattle.sqlite.specs.Command.TheVariants.{CreateIndex, CreateTable}
use Rattle.sqlite.specs.Does.{Does, lacks_sequence}
use Rattle.sqlite.specs.Effect.{Database}
use Rattle.sqlite.specs.Listing.{understood}
use Rattle.sqlite.specs.Order.{Row}
use Rattle.sqlite.specs.Schema.{Schema}
use Rattle.sqlite.specs.State.{HasCleanDisk, State, Survives, mode_of}
use Rattle.sqlite.specs.Table.{Table}
use Rattle.sqlite.specs.Term.{lit}
use Rattle.sqlite.specs.declared.types.Value.TheVariants.{Int, Null}
use Rattle.sqlite.specs.declared.error.Error.{Error}
use Rattle.sqlite_schema.specs.Rules.{Keeps}
use Rattle.sqlite_schema.specs.declared.schema.Constraint.TheVariants.{Unique}
use Rattle.sqlite_schema.specs.declared.schema.Index.{Index}
use Rattle.sql_texts.specs.Meaning.{MakesIndex, MakesTable, Means}
use Rattle.sql_texts.specs.Schema.{bureau, bureau_version}
use Rattle.sql_texts.specs.Writes.{delete_of, this_version}
use Rattle.sql_tables.proofs.StopFacts.{was_clean}
use Rattle.sql_writes.specs.Excused.{Excuses, IsExcused}
use Rattle.sql_writes.specs.Many.{statement_by}
use Rattle.sql_writes.specs.Making.{Leads}
use Rattle.sql_rows.specs.Running.{FailsInside}
use Rattle.sql_writes.proofs.DefineFacts.{IsNew, IsNewIndex, index_stops, table_stops}
use Rattle.sql_writes.proofs.RefusalFacts.{excused, writes}
use Rattle.sql_writes.proofs.RuleFacts.{delete_stops, insert_stops, version_sound}

-- ---- one statement

module _ {A : Type 0} (text : List ℕ) (old new : State) (result : Result A Error) (From : Database → Type 0) where
  -- a command that writes, which nothing but a limit of steps stops
  pub excused_by : (schema : Schema) (command : Command) (names : List (List ℕ)) (params : Row) → ((db : Database) → From db → db.schema ≡ schema)
      → understood schema text ≡ Ok (statement_by command names text) → length params ≡ length names → writes command ≡ true
      → (From old.now → (stop : Option Error) → Does old.step_limit (mode_of old) params old.now text None command (Err stop) → IsSome old.step_limit)
      → FailsInside text params old new result → IsExcused old new result From
  excused_by schema command names params of means given w stops fails = by result fails
    where
      by : (r : Result A Error) → FailsInside text params old new r → IsExcused old new r From
      by (Ok a) fails = tt
      by (Err e) fails = λ clean inside from. excused old new text params command names e (ap (λ s. understood s text) (of old.now from) ∙ means) given w (stops from) (fails clean inside)

  pub table_excused : (before after : Schema) (table : Table) → ((db : Database) → From db → db.schema ≡ before) → MakesTable before text table after → IsNew before table
      → lacks_sequence after ≡ false → FailsInside text [] old new result → IsExcused old new result From
  table_excused before after table of makes new_names unlacking fails =
      excused_by before CreateTable [] [] of makes.statement refl refl (λ from stop h. table_stops before after text table makes new_names old (of old.now from) unlacking stop h) fails

  pub index_excused : (before after : Schema) (table_index : ℕ) (table : Table) (index : Index) → ((db : Database) → From db → db.schema ≡ before)
      → MakesIndex before text table_index table index after → IsNewIndex before table index → slice_get before.tables table_index ≡ Some table
      → ((db : Database) → From db → AllByRecursion (λ t. db.trees t.tree ≡ []) before.tables × (db.trees table.tree ≡ [])) → FailsInside text [] old new result → IsExcused old new result From
  index_excused before after table_index table index of makes new_names at empty fails =
      excused_by before (CreateIndex table_index) [] [] of makes.statement refl refl
      (λ from stop h. absurd (let none = empty old.now from in index_stops before after text table_index table index makes new_names at old.now (of old.now from) none.0 none.1 old.step_limit (mode_of old) stop h)) fails

  -- the keys of the rows are each there once, which the rules of the tables say
  abbrev KeepsKeys : Type 0
  KeepsKeys = (db : Database) → From db → Keeps Unique bureau db.trees

  pub version_excused : ((db : Database) → From db → db.schema ≡ bureau) → KeepsKeys → ((db : Database) → From db → db.trees 0 ≡ [])
      → Means bureau text this_version 0 → FailsInside text [] old new result → IsExcused old new result From
  version_excused of keys none means fails =
      excused_by bureau this_version [] [] of means.statement refl refl
      (λ from stop h. insert_stops old text 0 bureau_version (lit (Int (pos 1)) ∷ lit Null ∷ lit (Int (pos 2)) ∷ []) 3 [] ((Int (pos 1) ∷ Null ∷ Int (pos 2) ∷ []) ∷ []) (of old.now from) refl refl refl refl (version_sound old.now.trees (keys old.now from) (none old.now from)) stop h) fails

  pub no_version_excused : ((db : Database) → From db → db.schema ≡ bureau) → KeepsKeys → Means bureau text (delete_of 0 0 []) 0 → FailsInside text [] old new result → IsExcused old new result From
  no_version_excused of keys means fails =
      excused_by bureau (delete_of 0 0 []) [] [] of means.statement refl refl (λ from stop h. delete_stops old text (of old.now from) (keys old.now from) stop h) fails

-- ---- one statement after others

pub still_excused : (old mid new : State) (e : Error) → IsTrue mid.is_open → old.faults ≤ mid.faults → mid.step_limit ≡ old.step_limit → Excuses mid new e → Excuses old new e
still_excused old mid new e here counts limit (inl memory) = inl memory
still_excused old mid new e here counts limit (inr (inl (inl more))) = inr (inl (inl (omega (arith, more, counts))))
still_excused old mid new e here counts limit (inr (inl (inr shut))) = absurd (false≢true (sym shut ∙ here))
still_excused old mid new e here counts limit (inr (inr steps)) = inr (inr (subst (λ most. IsSome most) limit steps))

pub excused_then : {A B F : Type 0} (old mid new : State) (a : A) (result : Result B Error) (One Two : Database → Type 0) → Leads {Fault = F} old mid (Ok a) One Two → Survives mid new (λ trees. ⊥)
    → IsExcused mid new result Two → IsExcused old new result One
excused_then {A} {B} {F} old mid new a result One Two one survives two = by result two
  where
    by : (r : Result B Error) → IsExcused mid new r Two → IsExcused old new r One
    by (Ok b) two = tt
    by (Err e) two = λ clean inside from.
        let it = one.done (was_clean mid new _ survives clean) inside in
        still_excused old mid new e it.0 one.survives.counts one.survives.limit (two clean it.1 (it.2 from))

-- the same refusal, told by a caller
pub excused_told : {A : Type 0} (old new : State) (result : Result A Error) (e : Error) (From : Database → Type 0) → IsErrAnd result (λ f. f ≡ e)
    → (HasCleanDisk new → IsTrue old.in_transaction → From old.now → Excuses old new e) → IsExcused old new result From
excused_told old new (Ok a) e From same excused = tt
excused_told old new (Err f) e From same excused = λ clean inside from. subst (Excuses old new) (sym same) (excused clean inside from)
