-- A statement whose text is right and that no rule of the tables refuses is refused with an excuse.
use Rattle.std.proofs.Common.{◌≡◌, ◌⊎◌, ◌||◌, ◌≤◌, ℕ, Bool, true, false, List, Option, Some, None, Result, Ok, Err, length, refl, sym, ◌∙◌, ap, subst, inl, inr, arith}
use Rattle.std.specs.Prelude.{IsSome, slice_range, ◌-◌}
use Rattle.std.proofs.lemmas.Bool.{MatchBool-at_false, false≢true}
use Rattle.std.proofs.lemmas.List.{append-nil, take_all}
use Rattle.sqlite.specs.Command.{Command}
use Rattle.sqlite.specs.Command.TheVariants.{Begin, Commit, CreateIndex, CreateTable, Delete, Insert, Release, Rollback, RollbackTo}
use Rattle.sqlite.specs.Does.{Does}
use Rattle.sqlite.specs.Listing.{understood}
use Rattle.sqlite.specs.Order.{Row}
use Rattle.sqlite.specs.Clock.{timed}
use Rattle.sqlite.specs.Effect.{is_query}
use Rattle.sqlite.specs.State.{EndsScope, ExecutesIn, ExecutesInside, Fails, HasCause, IsMisplaced, IsNoStatement, IsNotRun, IsStatement, RunsAlone, State, is_pragma, mode_of, store_error}
use Rattle.sqlite.specs.declared.error.Error.{Error}
use Rattle.sqlite_resolve.specs.declared.compiled.Compiled.{Compiled}
use Rattle.sqlite_trees.specs.declared.error.StoreError.{StoreError}
use Rattle.sqlite_trees.specs.declared.error.StoreError.TheVariants.{Broken, Corrupt, Full, Io, OutOfMemory, Unstorable}
use Rattle.lemmas.proofs.TestFacts.{low_itself}
use Rattle.sql_writes.specs.Many.{statement_by}
use Rattle.sql_writes.specs.Excused.{Excuses}
use Rattle.sql_rows.proofs.StatementFacts.{same_value}

-- ---- a part of a statement that stops

-- it stopped in its first part, or in the next
pub halts : {E R P : Type 0} {Stops Same : E → Type 0} → ((stop : E) × Stops stop × Same stop) ⊎ R → ((stop : E) → Stops stop → P) → (R → P) → P
halts (inl it) first next = first it.0 it.1
halts (inr on) first next = next on

pub gave : {A E P : Type 0} {a : A} {stop : E} → ◌≡◌ {A = Result A E} (Err stop) (Ok a) → P
gave e = absurd (cc)

-- a test that fails where it passes
pub both : {b : Bool} → b ≡ true → b ≡ false → ⊥
both passes fails = false≢true (sym fails ∙ passes)

-- ---- a command that writes

-- those that are run here
abbrev pub writes : Command → Bool
writes (Insert at from) = true
writes (Delete at q) = true
writes CreateTable = true
writes (CreateIndex at) = true
writes _ = false

shows_nothing : (command : Command) → writes command ≡ true → (is_query command || (is_pragma command || false)) ≡ false
shows_nothing (Insert at from) w = refl
shows_nothing (Delete at q) w = refl
shows_nothing CreateTable w = refl
shows_nothing (CreateIndex at) w = refl
shows_nothing _ w = absurd (false≢true w)

pub whole_text : (text : List ℕ) → slice_range text 0 (length text) ≡ text
whole_text text = take_all (length text - 0) text (omega arith)

-- a text that is one statement, with its parameters
module _ (old : State) (text : List ℕ) (params : Row) (command : Command) (names : List (List ℕ)) (e : Error)
    (is : understood old.now.schema text ≡ Ok (statement_by command names text)) (given : length params ≡ length names) where
  pub no_statement : IsNoStatement old text params e → ⊥
  no_statement (inl fault) = let none = sym fault.1 ∙ is in cc
  no_statement (inr why) =
      let same : why.0 ≡ statement_by command names text = same_value (sym why.1 ∙ is) in
      elim why.2 [
        | inl more ↦ more.0 (subst (λ (c : Compiled). length text ≤ c.tail) (sym same) (low_itself (length text)))
        | inr rest ↦ elim rest [
          | inl few ↦ few.0 (given ∙ ap (λ (c : Compiled). length c.names) (sym same))
          | inr reads_time ↦ reads_time.0 (ap (λ (c : Compiled). c.formats) same)
        ]
      ]

-- the store failed
pub failing : (old new : State) (e : Error) (too_big : Type 0) → (too_big → IsSome old.step_limit) → Fails old new too_big e → Excuses old new e
failing old new e too_big big failed = by failed.0 failed.1 failed.2
  where
    by : (cause : StoreError) → e ≡ store_error cause → HasCause old new too_big cause → Excuses old new e
    by OutOfMemory known why = inl known
    by Io known why = inr (inl (inl why))
    by Corrupt known why = inr (inl (inl why))
    by Full known why = inr (inl (inl why))
    by Broken known why = inr (inl (inr why))
    by Unstorable known why = inr (inr (big why))

-- a statement that isn't run at all
pub unrun : (old new : State) (text : List ℕ) (params : Row) (command : Command) (names : List (List ℕ)) (e : Error) → understood old.now.schema text ≡ Ok (statement_by command names text)
    → length params ≡ length names → IsNotRun old new text params e → Excuses old new e
unfolding IsNotRun
unrun old new text params command names e is given (inl unread) = absurd (no_statement old text params command names e is given unread.0)
unrun old new text params command names e is given (inr failed) = failing old new e ⊥ (λ none. absurd none) failed

module _ (old new : State) (text : List ℕ) (params : Row) (command : Command) (names : List (List ℕ)) (e : Error)
    (is : understood old.now.schema text ≡ Ok (statement_by command names text)) (given : length params ≡ length names)
    (w : writes command ≡ true) (stops : (stop : Option Error) → Does old.step_limit (mode_of old) params old.now text None command (Err stop) → IsSome old.step_limit) where
  abbrev one : Compiled
  one = statement_by command names text

  other : (k : Command) → writes k ≡ false → command ≡ k → ⊥
  other k none same = false≢true (sym none ∙ ap writes (sym same) ∙ w)

  placed : IsMisplaced old command e → ⊥
  placed (inl it) = elim it.1 [
    | inl begin ↦ other Begin refl begin.0
    | inr ended ↦ elim ended.0 [ inl commit ↦ other Commit refl commit | inr back ↦ other Rollback refl back ]
  ]
  placed (inr it) = elim it.2 [ inl release ↦ other (Release it.1) refl release | inr back ↦ other (RollbackTo it.1) refl back ]

  ran : (c : Compiled) (it : IsStatement old text params c) → RunsAlone false old new text c (timed params c.formats it.now) (Err e) → Excuses old new e
  ran c it runs =
      let same : c ≡ one = same_value (sym it.is ∙ is) in
      let here = subst (λ (k : Compiled). RunsAlone false old new text k (timed params k.formats it.now) (Err e)) same runs in
      let plain : RunsAlone false old new text one params (Err e) = subst (λ row. RunsAlone false old new text one row (Err e)) (append-nil params) here in
      elim (MatchBool-at_false _ _ (shows_nothing command w) plain) [
        | inl refused ↦ elim refused.0 [
          | inl misplaced ↦ absurd (placed misplaced)
          | inr changed ↦ inr (inr (stops (Some e) (subst (λ t. Does old.step_limit (mode_of old) params old.now t None command (Err (Some e))) (whole_text text) changed.1)))
        ]
        | inr failed ↦ failing old new e _ (λ big. stops None (subst (λ t. Does old.step_limit (mode_of old) params old.now t None command (Err None)) (whole_text text) big)) failed
      ]

  alone : ExecutesIn false text params old new (Err e) → Excuses old new e
  unfolding ExecutesIn IsNotRun
  alone (inl (inl unread)) = absurd (no_statement old text params command names e is given unread.0)
  alone (inl (inr failed)) = failing old new e ⊥ (λ none. absurd none) failed
  alone (inr it) = ran it.0 it.1 it.2

  escapes : EndsScope 0 text params old → ⊥
  unfolding EndsScope
  escapes ends =
      let same : ends.0.command ≡ command = ap (λ (c : Compiled). c.command) (same_value (sym ends.1.is ∙ is)) in
      elim ends.2 [
        | inl out ↦ elim out [ inl commit ↦ other Commit refl (sym same ∙ commit) | inr back ↦ other Rollback refl (sym same ∙ back) ]
        | inr marked ↦ elim marked.1 [ inl release ↦ other (Release marked.0) refl (sym same ∙ release) | inr back ↦ other (RollbackTo marked.0) refl (sym same ∙ back) ]
      ]

  pub excused : ExecutesInside 0 text params old new (Err e) → Excuses old new e
  excused (inl it) = alone it.0
  excused (inr ends) = absurd (escapes ends.0)
