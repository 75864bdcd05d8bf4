-- What a transaction writes and commits is a change of the connection.
use Rattle.std.proofs.Common.{◌≡◌, ◌∙◌, Err, IfErr, IsOk, IsTrue, Ok, OnErr, OnOk, Result, ap, false, inl, inr, refl, subst, sym, true}
use Rattle.sqlite.specs.Held.{Held, state}
use Rattle.sqlite.specs.State.{HasCleanDisk, KeepsCommit, Shows, State, Survives}
use Rattle.sqlite_catalog.specs.Listing.{IsSound}
use Rattle.sqlite.specs.Steps.{FailsToCommit}
use Rattle.sqlite.specs.declared.error.Error.{Error}
use Rattle.sqlite.proofs.Callers.{survives_begin}
use Rattle.sqlite.proofs.StateLemmas.{survives_then}
use Rattle.sqlite_trees.specs.declared.store.Store.{Ghosts}
use Rattle.sql_texts.specs.Schema.{bureau}
use Rattle.sql_tables.specs.Stored.{Stored}
use Rattle.sql_tables.specs.Ours.{IsOurs, held_by}
use Rattle.sql_tables.proofs.OursFacts as own
use Rattle.sql_tables.specs.Writing.{Changes, IsKnown}
use Rattle.bureau_sql.specs.Failing.{FailsToEnd}
use Rattle.bureau_sql.specs.Committed.{AreChanged, HaveChange, IsCommitted}
use Rattle.sql_tables.proofs.StopFacts.{kept_begun, kept_failing, kept_then, kept_unchanged, no_read, was_clean}

failed_commit_keeps : (old new : State) (e : Error) → FailsToCommit old new e → KeepsCommit old new
failed_commit_keeps old new e (inl failed) = kept_failing old new ⊥ e failed
failed_commit_keeps old new e (inr ended) = kept_unchanged old new ended.2

pub refused_commit : {Done : Type 0} (old new : State) (result : Result Done Error) → (HasCleanDisk new → IfErr result (FailsToCommit old new))
    → OnErr result (HasCleanDisk new → KeepsCommit old new)
refused_commit old new (Ok done) fails = tt
refused_commit old new (Err e) fails = λ clean. failed_commit_keeps old new e (fails clean)

-- what was written is refused where it is committed
pub commit_fails : {Answer Done : Type 0} (written : Result Answer Error) (old new : State) (result : Result Done Error) → IsOk written → (HasCleanDisk new → IfErr result (FailsToCommit old new))
    → IfErr result (λ error. HasCleanDisk new → FailsToEnd written old new error)
commit_fails written old new (Ok done) wrote fails = tt
commit_fails written old new (Err e) wrote fails = λ clean. inr (wrote, fails clean)

-- The connection at rest, as its transaction begins, after what was written, and after the end.
module _ (old begun mid new : State) (change : Stored → Stored) (same_now : begun.now ≡ old.now) (same_committed : begun.committed ≡ old.committed)
    (same_open : begun.is_open ≡ old.is_open) (inside : IsTrue begun.in_transaction) (settled : IsTrue old.is_open → old.now ≡ old.committed) where
  known : IsTrue old.is_open → IsOurs old.committed → IsKnown begun.now
  known is_open ours = subst IsKnown (sym (same_now ∙ settled is_open)) (own.known old.committed ours)

  kept : KeepsCommit begun mid → KeepsCommit mid new → KeepsCommit old new
  kept first then = kept_then old begun new (kept_begun old begun same_committed same_open) (kept_then begun mid new first then)

  was_open : KeepsCommit begun mid → IsTrue mid.is_open → IsTrue old.is_open
  was_open first is_open = subst IsTrue same_open (first.was_open is_open)

  written_so : {Answer Fault : Type 0} (written : Result Answer Fault) → Changes begun mid written change → IsOk written → HasCleanDisk mid
      → IsTrue mid.is_open × (IsOurs old.committed → (mid.now.schema ≡ bureau) × HaveChange old.committed change mid.now.trees)
  written_so (Err e) changes none clean = absurd cc
  written_so (Ok a) changes done clean =
      let made = changes.done clean inside in
      let was = was_open (changes.keeps clean inside) made.0 in (
        made.0,
        λ ours.
            let it = made.2 (known was ours) in (
              it.0.schema,
              record {
                sound = subst (λ schema. IsSound schema mid.now.trees) it.0.schema it.0.sound;
                numbered = it.0.numbered;
                version = it.2 ∙ ap (λ database. database.trees 0) (same_now ∙ settled was);
                rows = it.1 ∙ ap (λ database. change (held_by database)) (same_now ∙ settled was);
              },
            ),
      )

  pub is_committed : {Answer Fault Done Refusal : Type 0} (written : Result Answer Fault) (result : Result Done Refusal) → Survives old begun (λ trees. ⊥) → Changes begun mid written change
      → OnOk result (IsOk written × (HasCleanDisk new → Shows mid new mid.now mid.now false)) → OnErr result (HasCleanDisk new → KeepsCommit mid new)
      → Survives mid new (λ trees. IsOk written × (trees ≡ mid.now.trees)) → IsCommitted old new result change
  is_committed {Answer} {Fault} {Done} {Refusal} written result begins changes ends refused survives = record {
    done = done result ends;
    refused = as_before result refused;
    survives = survives_then old begun new (λ trees. ⊥) (AreChanged old change) (AreChanged old change) (λ clean trees none. absurd none) (λ clean trees made. made) begins
        (survives_then begun mid new (λ trees. ⊥) (λ trees. IsOk written × (trees ≡ mid.now.trees)) (AreChanged old change) (λ clean trees none. absurd none)
        (λ clean trees left was ours.
        let made = written_so written changes left.0 (before clean) in
        subst (HaveChange old.committed change) (sym left.1) (made.1 ours).1) changes.survives survives);
  }
    where
      before : HasCleanDisk new → HasCleanDisk mid
      before = was_clean mid new (λ trees. IsOk written × (trees ≡ mid.now.trees)) survives

      done : (result : Result Done Refusal) → OnOk result (IsOk written × (HasCleanDisk new → Shows mid new mid.now mid.now false))
          → OnOk result (HasCleanDisk new → IsTrue new.is_open × (IsOurs old.committed → (new.committed.schema ≡ bureau) × HaveChange old.committed change new.committed.trees))
      done (Err e) ends = tt
      done (Ok a) ends = λ clean.
          let shows = ends.1 clean in
          let made = written_so written changes ends.0 (before clean) in (
            shows.is_open,
            λ ours.
                let it = made.1 ours in
                (ap (λ database. database.schema) shows.committed_is ∙ it.0, subst (λ database. HaveChange old.committed change database.trees) (sym shows.committed_is) it.1),
          )

      as_before : (result : Result Done Refusal) → OnErr result (HasCleanDisk new → KeepsCommit mid new) → OnErr result (HasCleanDisk new → KeepsCommit old new)
      as_before (Ok a) refused = tt
      as_before (Err e) refused = λ clean. kept (changes.keeps (before clean) inside) (refused clean)

-- a transaction that is begun on a connection at rest, written into, and ended
pub transaction_made : {S : Type 0} (g : Ghosts S) (old begun mid last : Held S) (change : Stored → Stored) → begun ≡ record old { in_transaction = true }
    → (IsTrue (state g old).is_open → (state g old).now ≡ (state g old).committed) → {Answer Fault Done Refusal : Type 0} (written : Result Answer Fault) (result : Result Done Refusal)
    → Changes (state g begun) (state g mid) written change → OnOk result (IsOk written × (HasCleanDisk (state g last) → Shows (state g mid) (state g last) (state g mid).now (state g mid).now false))
    → OnErr result (HasCleanDisk (state g last) → KeepsCommit (state g mid) (state g last))
    → Survives (state g mid) (state g last) (λ trees. IsOk written × (trees ≡ (state g mid).now.trees)) → IsCommitted (state g old) (state g last) result change
transaction_made g old begun mid last change is settled written result changes ends refused survives =
    is_committed (state g old) (state g begun) (state g mid) (state g last) change (ap (λ h. (state g h).now) is) (ap (λ h. (state g h).committed) is) (ap (λ h. (state g h).is_open) is)
    (subst (λ h. IsTrue h.in_transaction) (sym is) refl) settled written result
    (subst (λ h. Survives (state g old) (state g h) (λ trees. ⊥)) (sym is) (survives_begin g old (state g (record old { in_transaction = true })) (λ trees. ⊥) (no_read (state g (record old { in_transaction = true }))).survives))
    changes ends refused survives
