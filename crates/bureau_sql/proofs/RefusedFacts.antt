-- Why a text is refused: it is no statement with these tables, or the store below has failed.
use Rattle.std.proofs.Common.{◌≡◌, ◌∙◌, ◌≤◌, ℕ, List, [], ◌∷◌, IsTrue, ap, inl, inr, length, refl, subst, suc, sym, zero}
use Rattle.bureau_store.specs.declared.fault.StoreFault.{StoreFault}
use Rattle.bureau_store.specs.declared.fault.StoreFault.TheVariants.{Device, Memory, Shape, Size, Version}
use Rattle.sqlite.specs.Clock.{timed}
use Rattle.sqlite.specs.Command.TheVariants.{Rollback}
use Rattle.sqlite.specs.Effect.{Database}
use Rattle.sqlite.specs.Order.{Row}
use Rattle.sqlite.specs.State.{FailsToQuery, FailsToShow, HasCause, IsNoStatement, IsNotRun, Shown, ShowsRows, State, store_error}
use Rattle.sqlite.specs.declared.error.Error.{Error}
use Rattle.sqlite.specs.declared.error.Error.TheVariants.{InvalidParameterCount, InvalidQuery, MultipleStatement, SqlInputError, SqliteFailure}
use Rattle.sqlite.specs.declared.error.ErrorCode.TheVariants.{NoClock}
use Rattle.sqlite.specs.declared.types.Value.TheVariants.{Null}
use Rattle.sqlite_resolve.specs.declared.compiled.Compiled.{Compiled}
use Rattle.sqlite_trees.specs.declared.error.StoreError.{StoreError}
use Rattle.sqlite_trees.specs.declared.error.StoreError.TheVariants.{OutOfMemory, Io, Corrupt, Full, Broken, Unstorable}
use Rattle.lemmas.proofs.TestFacts.{low_itself}
use Rattle.sql_texts.specs.Meaning.{Means}
use Rattle.sql_tables.specs.Reading.{HasFailed}
use Rattle.sql_tables.proofs.StopFacts.{failed_by}
use Rattle.bureau_sql.specs.Opening.{IsOneStatement, IsSeen, IsToldOf}

-- a text that these tables give one meaning is not refused for it
one_statement : (at : State) (text : List ℕ) (params : Row) (e : Error) (it : IsOneStatement at.now.schema text) → length params ≡ length it.0.names → IsNoStatement at text params e → ⊥
one_statement at text params e it given (inl fault) = let none = sym fault.1 ∙ it.1 in cc
one_statement at text params e it given (inr why) =
    let both = sym why.1 ∙ it.1 in
    let same : why.0 ≡ it.0 = cc in
    elim why.2 [
      | inl more ↦ more.0 (subst (λ (c : Compiled). length text ≤ c.tail) (sym same) it.2)
      | inr rest ↦ elim rest [
        | inl other ↦ other.0 (given ∙ ap (λ (c : Compiled). length c.names) (sym same))
        | inr reads_time ↦ reads_time.0 (subst (λ (c : Compiled). c.formats ≡ []) (sym same) it.3)
      ]
    ]

-- why a text isn't a statement is no failure of the store
no_failure : (at : State) (text : List ℕ) (params : Row) (e : Error) (cause : StoreError) → IsNoStatement at text params e → e ≡ store_error cause → ⊥
no_failure at text params e cause (inl fault) is = other cause (sym fault.2 ∙ is)
  where
    other : (cause : StoreError) → SqlInputError fault.0 ≡ store_error cause → ⊥
    other OutOfMemory is = cc
    other Io is = cc
    other Corrupt is = cc
    other Full is = cc
    other Broken is = cc
    other Unstorable is = cc
no_failure at text params e cause (inr why) is = elim why.2 [
  | inl more ↦ many cause (sym more.1 ∙ is)
  | inr rest ↦ elim rest [
    | inl other ↦ counted cause (sym other.1 ∙ is)
    | inr reads_time ↦ clocked cause (sym reads_time.1 ∙ is)
  ]
]
  where
    many : (cause : StoreError) → MultipleStatement ≡ store_error cause → ⊥
    many OutOfMemory is = cc
    many Io is = cc
    many Corrupt is = cc
    many Full is = cc
    many Broken is = cc
    many Unstorable is = cc

    counted : {m n : ℕ} (cause : StoreError) → InvalidParameterCount m n ≡ store_error cause → ⊥
    counted OutOfMemory is = cc
    counted Io is = cc
    counted Corrupt is = cc
    counted Full is = cc
    counted Broken is = cc
    counted Unstorable is = cc

    clocked : (cause : StoreError) → SqliteFailure NoClock ≡ store_error cause → ⊥
    clocked OutOfMemory is = cc
    clocked Io is = cc
    clocked Corrupt is = cc
    clocked Full is = cc
    clocked Broken is = cc
    clocked Unstorable is = cc

-- so many values
abbrev nulls : ℕ → Row
nulls zero = []
nulls (suc n) = Null ∷ nulls n

length_nulls : (n : ℕ) → length (nulls n) ≡ n
length_nulls zero = refl
length_nulls (suc n) = ap suc (length_nulls n)

module _ (old new : State) (text : List ℕ) (e : Error) (settled : IsTrue old.is_open → old.now ≡ old.committed) where
  -- told of the shape, the text is no statement under the committed tables
  no_statement : ((params : Row) → IsNotRun old new text params e) → ((cause : StoreError) → e ≡ store_error cause → cause ≡ Unstorable)
      → IsTrue old.is_open × (IsOneStatement old.committed.schema text → ⊥)
  unfolding IsNotRun
  no_statement not_run told = elim (not_run []) [
    | inl it ↦
        let was = it.1.0.was_open in
        (was, λ one. at_now (subst (λ (d : Database). IsOneStatement d.schema text) (sym (settled was)) one))
    | inr failed ↦ absurd (subst (HasCause old new ⊥) (told failed.0 failed.1) failed.2)
  ]
    where
      at_now : IsOneStatement old.now.schema text → ⊥
      at_now one = elim (not_run (nulls (length one.0.names))) [
        | inl it ↦ one_statement old text (nulls (length one.0.names)) e one (length_nulls (length one.0.names)) it.0
        | inr failed ↦ subst (HasCause old new ⊥) (told failed.0 failed.1) failed.2
      ]

  -- told of the device, it has failed
  has_failed : (cause : StoreError) → IsNotRun old new text [] e → e ≡ store_error cause → (e ≡ store_error OutOfMemory → ⊥) → HasFailed old new
  unfolding IsNotRun
  has_failed cause (inl it) is known = absurd (no_failure old text [] e cause it.0 is)
  has_failed cause (inr failed) is known = failed_by old new e failed known

  pub unread : (fault : StoreFault) → ((params : Row) → IsNotRun old new text params e) → IsToldOf e fault
      → IsSeen (λ database. IsOneStatement database.schema text → ⊥) (λ database. ⊥) old new fault
  unread Memory not_run told = tt
  unread Size not_run told = absurd told
  unread Version not_run told = absurd told
  unread Shape not_run told = no_statement not_run told
  unread Device not_run (inl is) = inl (has_failed Io (not_run []) is (λ memory. cc))
  unread Device not_run (inr (inl is)) = inl (has_failed Corrupt (not_run []) is (λ memory. cc))
  unread Device not_run (inr (inr (inl is))) = inl (has_failed Full (not_run []) is (λ memory. cc))
  unread Device not_run (inr (inr (inr is))) = inl (has_failed Broken (not_run []) is (λ memory. cc))

-- ---- the probe, a ROLLBACK that is run as a query

module _ (text : List ℕ) (old new : State) (means : Means old.now.schema text Rollback 0) where
  abbrev one : IsOneStatement old.now.schema text
  one = (_, means.statement, low_itself (length text), refl)

  -- it is no query, so what refuses it as anything else has failed
  pub probe_failed : (e : Error) → FailsToQuery text [] old new e → (e ≡ InvalidQuery → ⊥) → (e ≡ store_error OutOfMemory → ⊥) → HasFailed old new
  unfolding FailsToQuery IsNotRun
  probe_failed e (inl (inl why)) other known = absurd (one_statement old text [] e one refl why.0)
  probe_failed e (inl (inr failed)) other known = failed_by old new e failed known
  probe_failed e (inr it) other known =
      let both = sym means.statement ∙ it.1.is in
      let same : one.0 ≡ it.0 = cc in
      let why = subst (λ (c : Compiled). FailsToShow old new text c (timed [] it.0.formats it.1.now) e c.returning) (sym same) it.2 in
      absurd (other why.2)

  -- and it shows nothing
  pub probe_shows_nothing : (rows : List Row) → Shown text [] old new rows → ⊥
  unfolding Shown
  probe_shows_nothing rows it =
      let both = sym means.statement ∙ it.1.is in
      let same : one.0 ≡ it.0 = cc in
      (subst (λ (c : Compiled). ShowsRows old new text c (timed [] it.0.formats it.1.now) rows c.returning) (sym same) it.2).2
