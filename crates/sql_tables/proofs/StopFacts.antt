-- What is committed, and what a stop leaves, over one step of a connection and over two.
use Rattle.std.proofs.Common.{◌≡◌, ◌∙◌, ◌≤◌, ℕ, IsTrue, List, arith, inl, inr, refl, subst, sym}
use Rattle.std.proofs.lemmas.Bool.{cases_Bool}
use Rattle.sqlite.specs.Order.{Row}
use Rattle.sqlite.specs.State.{Fails, HasCause, HasCleanDisk, IsNotRun, IsUnchanged, KeepsCommit, State, Survives, store_error}
use Rattle.sqlite.specs.Tree.{Trees}
use Rattle.sqlite_trees.specs.declared.error.StoreError.{StoreError}
use Rattle.sqlite_trees.specs.declared.error.StoreError.TheVariants.{Broken, Corrupt, Full, Io, OutOfMemory, Unstorable}
use Rattle.sqlite.specs.declared.error.Error.{Error}
use Rattle.sqlite.proofs.StateLemmas.{survives_then}
use Rattle.sql_tables.specs.Reading.{HasFailed, OnlyReads}

-- the disk was clean before, where it is clean now
pub was_clean : (old new : State) (Leaves : Trees → Type 0) → Survives old new Leaves → HasCleanDisk new → HasCleanDisk old
was_clean old new Leaves survives clean = omega (arith, survives.clean, clean)

-- ---- what is committed stays

pub kept_unchanged : (old new : State) → IsUnchanged old new → KeepsCommit old new
kept_unchanged old new same = record { was_open = λ here. same.0.was_open; committed = λ here. same.0.committed_is }

pub kept_failing : (old new : State) (too_big : Type 0) (e : Error) → Fails old new too_big e → KeepsCommit old new
kept_failing old new too_big e h = record { was_open = h.3.was_open; committed = λ here. (h.3.undone here).1 }

pub kept_unrun : (old new : State) (text : List ℕ) (params : Row) (e : Error) → IsNotRun old new text params e → KeepsCommit old new
unfolding IsNotRun
kept_unrun old new text params e (inl h) = kept_unchanged old new h.1
kept_unrun old new text params e (inr h) = kept_failing old new ⊥ e h

-- where a transaction begins, which commits nothing
pub kept_begun : (old begun : State) → begun.committed ≡ old.committed → begun.is_open ≡ old.is_open → KeepsCommit old begun
kept_begun old begun same_committed same_open = record { was_open = λ here. subst IsTrue same_open here; committed = λ here. same_committed }

-- over two steps
pub kept_then : (old mid new : State) → KeepsCommit old mid → KeepsCommit mid new → KeepsCommit old new
kept_then old mid new one two =
    record { was_open = λ here. one.was_open (two.was_open here); committed = λ here. two.committed here ∙ one.committed (two.was_open here) }

-- ---- a stop leaves what it would have left

-- where nothing is done
survives_itself : (at : State) → Survives at at (λ trees. ⊥)
survives_itself at = record {
  clean = omega arith;
  shield = λ here. here;
  counts = omega arith;
  limit = refl;
  closes = λ clean here. inl here;
  crash = λ clean trees left. inl left;
}

-- over two steps
pub survives_both : (old mid new : State) → Survives old mid (λ trees. ⊥) → Survives mid new (λ trees. ⊥) → Survives old new (λ trees. ⊥)
survives_both old mid new = survives_then old mid new (λ trees. ⊥) (λ trees. ⊥) (λ trees. ⊥) (λ _ trees none. none) (λ _ trees none. none)

-- ---- a failure

-- a call that the store failed, other than for want of memory
pub failed_by : (old new : State) (e : Error) → Fails old new ⊥ e → (e ≡ store_error OutOfMemory → ⊥) → HasFailed old new
failed_by old new e failed known = by failed.0 failed.1 failed.2
  where
    by : (cause : StoreError) → e ≡ store_error cause → HasCause old new ⊥ cause → HasFailed old new
    by OutOfMemory is why = absurd (known is)
    by Io is why = inl why
    by Corrupt is why = inl why
    by Full is why = inl why
    by Broken is why = inr why
    by Unstorable is why = absurd why

-- a failure after a step is one since before it
pub failed_after : (old mid new : State) → OnlyReads old mid → HasCleanDisk mid → mid.faults ≤ new.faults → HasFailed mid new → HasFailed old new
failed_after old mid new reads clean counts (inl more) = let rose = reads.survives.counts in inl (omega (arith, more, rose, counts))
failed_after old mid new reads clean counts (inr shut) = elim (cases_Bool old.is_open) [
  | inl on ↦ elim (reads.survives.closes clean on) [
    | inl here ↦ absurd (let never = sym shut ∙ here in cc)
    | inr more ↦ inl (omega (arith, more, counts))
  ]
  | inr off ↦ inr off
]

-- and a failure before a step is one up to its end
pub failed_before : (old mid new : State) → HasFailed old mid → mid.faults ≤ new.faults → HasFailed old new
failed_before old mid new (inl more) counts = inl (omega (arith, more, counts))
failed_before old mid new (inr shut) counts = inr shut

-- ---- a read leaves what is committed

pub no_read : (at : State) → OnlyReads at at
no_read at = record { keeps = λ clean. record { was_open = λ here. here; committed = λ here. refl }; survives = survives_itself at }

pub read_on : (old mid new : State) → OnlyReads old mid → OnlyReads mid new → OnlyReads old new
read_on old mid new sooner later = record {
  keeps = λ clean. kept_then old mid new (sooner.keeps (was_clean mid new (λ trees. ⊥) later.survives clean)) (later.keeps clean);
  survives = survives_both old mid new sooner.survives later.survives;
}
