-- What a text leaves of a connection that writes nothing whose rows it would show.
use Rattle.std.proofs.Common.{◌≡◌, ◌⊎◌, ℕ, List, IsSome, None, Ok, Option, Some, inl, inr, subst}
use Rattle.sqlite.specs.Clock.{timed}
use Rattle.sqlite.specs.Listing.{understood}
use Rattle.sqlite.specs.Order.{Row}
use Rattle.sqlite.specs.State.{CommitsShowing, Fails, FailsToQuery, FailsToShow, IsNotRun, IsUnchanged, KeepsCommit, Shown, ShowsRows, State, Survives}
use Rattle.sqlite.specs.declared.error.Error.{Error}
use Rattle.sqlite_resolve.specs.declared.compiled.Compiled.{Compiled}
use Rattle.sqlite_schema.specs.declared.command.Returning.{Returning}
use Rattle.sql_tables.proofs.StopFacts.{kept_failing, kept_unchanged}

never : (o : Option Returning) → IsSome o → o ≡ None → ⊥
never None some none = cc
never (Some r) some none = cc

module _ (text : List ℕ) (params : Row) (old new : State) (plain : (c : Compiled) → understood old.now.schema text ≡ Ok c → c.returning ≡ None) where
  -- nothing is committed
  pub survives_read : Survives old new (CommitsShowing text params old) → Survives old new (λ trees. ⊥)
  unfolding CommitsShowing
  survives_read survives = record {
    clean = survives.clean;
    shield = survives.shield;
    counts = survives.counts;
    limit = survives.limit;
    closes = survives.closes;
    crash = λ clean trees left. elim (survives.crash clean trees left) [
      | inl was ↦ inl was
      | inr commits ↦ absurd (never commits.0.returning commits.2 (plain commits.0 commits.1.is))
    ];
  }

  pub shown_unchanged : (rows : List Row) → Shown text params old new rows → IsUnchanged old new
  unfolding Shown
  shown_unchanged rows h = (subst (ShowsRows old new text h.0 (timed params h.0.formats h.1.now) rows) (plain h.0 h.1.is) h.2).3

  -- a refusal leaves all as it was, or the store failed
  pub refused_unless : (e : Error) → FailsToQuery text params old new e → IsUnchanged old new ⊎ Fails old new ⊥ e
  unfolding FailsToQuery IsNotRun
  refused_unless e (inl (inl h)) = inl h.1
  refused_unless e (inl (inr h)) = inr h
  refused_unless e (inr h) = inl (subst (FailsToShow old new text h.0 (timed params h.0.formats h.1.now) e) (plain h.0 h.1.is) h.2).3

  pub refused_keeps : (e : Error) → FailsToQuery text params old new e → KeepsCommit old new
  refused_keeps e h = elim (refused_unless e h) [
    | inl same ↦ kept_unchanged old new same
    | inr failed ↦ kept_failing old new ⊥ e failed
  ]
