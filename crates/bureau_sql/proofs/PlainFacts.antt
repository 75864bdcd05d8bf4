-- What a query leaves of a connection whose text neither writes nor reads the time.
use Rattle.std.proofs.Common.{◌≡◌, ℕ, List, [], Ok, Err, Result, IfErr, IfOk, IsTrue, None, subst, inl, inr}
use Rattle.sqlite.specs.Given.{IsPlain}
use Rattle.sqlite.specs.Listing.{understood}
use Rattle.sqlite.specs.State.{CommitsShowing, FailsToQuery, HasCleanDisk, IsNotRun, IsUnchanged, KeepsCommit, Shown, State, Survives}
use Rattle.sqlite.specs.declared.error.Error.{Error}
use Rattle.sqlite.specs.declared.error.Error.TheVariants.{InvalidQuery}
use Rattle.sqlite_resolve.specs.declared.compiled.Compiled.{Compiled}
use Rattle.sqlite_trees.specs.declared.error.StoreError.{StoreError}
use Rattle.sqlite_trees.specs.declared.error.StoreError.TheVariants.{OutOfMemory, Io, Corrupt, Full, Broken, Unstorable}
use Rattle.sqlite.specs.State.{store_error}
use Rattle.sqlite_value.specs.Order.{Row}
use Rattle.sql_tables.specs.Reading.{OnlyReads}
use Rattle.sql_tables.proofs.StateReadFacts.{refused_keeps, refused_unless, shown_unchanged, survives_read}
use Rattle.sql_tables.proofs.StopFacts.{kept_unchanged, kept_unrun}

no_store_error : (cause : StoreError) → InvalidQuery ≡ store_error cause → ⊥
no_store_error OutOfMemory is = cc
no_store_error Io is = cc
no_store_error Corrupt is = cc
no_store_error Full is = cc
no_store_error Broken is = cc
no_store_error Unstorable is = cc

module _ (sql : List ℕ) (params : Row) (old new : State) (plain : IsPlain (understood old.now.schema sql)) where
  bare : (c : Compiled) → understood old.now.schema sql ≡ Ok c → c.returning ≡ None
  bare c is = (subst IsPlain is plain).0

  pub query_reads : {Answer : Type 0} (rows : Answer → List Row) (result : Result Answer Error)
      → (HasCleanDisk new → IfOk result (λ answer. Shown sql params old new (rows answer)))
      → (HasCleanDisk new → IfErr result (FailsToQuery sql params old new))
      → Survives old new (CommitsShowing sql params old) → OnlyReads old new
  query_reads {Answer} rows result shown refused survives =
      record { keeps = λ clean. kept result (shown clean) (refused clean); survives = survives_read sql params old new bare survives }
    where
      kept : (result : Result Answer Error) → IfOk result (λ answer. Shown sql params old new (rows answer))
          → IfErr result (FailsToQuery sql params old new) → KeepsCommit old new
      kept (Ok answer) shown refused = kept_unchanged old new (shown_unchanged sql params old new bare (rows answer) shown)
      kept (Err e) shown refused = refused_keeps sql params old new bare e refused

  -- a connection that refuses a text as no query is open
  pub refused_as_no_query : FailsToQuery sql params old new InvalidQuery → IsTrue new.is_open
  refused_as_no_query h = elim (refused_unless sql params old new bare InvalidQuery h) [
    | inl same ↦ same.0.is_open
    | inr failed ↦ absurd (no_store_error failed.0 failed.1)
  ]

-- a text that is prepared is not run
pub prepare_reads : {Answer : Type 0} (old new : State) (sql : List ℕ) (Shows : Answer → Type 0) (result : Result Answer Error)
    → (HasCleanDisk new → IfOk result (λ answer. Shows answer × IsUnchanged old new)) → (HasCleanDisk new → IfErr result (λ e. (params : Row) → IsNotRun old new sql params e))
    → Survives old new (λ trees. ⊥) → OnlyReads old new
prepare_reads {Answer} old new sql Shows result done refused survives = record { keeps = λ clean. kept result (done clean) (refused clean); survives = survives }
  where
    kept : (result : Result Answer Error) → IfOk result (λ answer. Shows answer × IsUnchanged old new) → IfErr result (λ e. (params : Row) → IsNotRun old new sql params e) → KeepsCommit old new
    kept (Ok answer) done refused = kept_unchanged old new done.1
    kept (Err e) done refused = kept_unrun old new sql [] e (refused [])
