-- Why a transaction on a connection at rest is refused.
use Rattle.std.proofs.Common.{◌≡◌, ◌≤◌, ◌<◌, ◌⊎◌, ◌∙◌, ℕ, Bool, Err, IfErr, IsTrue, Ok, OnOk, Result, ap, arith, inl, inr, refl, subst, sym, true}
use Rattle.std.specs.Prelude.{IsSome}
use Rattle.std.proofs.lemmas.Bool.{cases_Bool, false≢true}
use Rattle.bureau_store.specs.declared.fault.StoreFault.{StoreFault}
use Rattle.bureau_store.specs.Store.{IsOfCall, Update}
use Rattle.bureau_store.specs.declared.fault.StoreFault.TheVariants.{Device, Memory, Shape, Size, Version}
use Rattle.sqlite.specs.Effect.{Database}
use Rattle.sqlite.specs.Held.{Held, state}
use Rattle.sqlite.specs.State.{HasCause, HasCleanDisk, State, Survives, store_error}
use Rattle.sqlite.specs.Steps.{FailsToCommit}
use Rattle.sqlite.specs.declared.error.Error.{Error}
use Rattle.sqlite_trees.specs.Tree.{Trees}
use Rattle.sqlite_trees.specs.declared.error.StoreError.{StoreError}
use Rattle.sqlite_trees.specs.declared.error.StoreError.TheVariants.{Broken, Corrupt, Full, Io, OutOfMemory, Unstorable}
use Rattle.sqlite_trees.specs.declared.store.Store.{Ghosts}
use Rattle.sql_writes.specs.Excused.{Excuses, IsExcused}
use Rattle.sql_writes.specs.Making.{Leads}
use Rattle.sql_writes.specs.Room.{AreUpTo, HasRoom, IsRoomy}
use Rattle.sql_tables.specs.Stored.{Stored}
use Rattle.sql_tables.specs.Ours.{IsOurs, held_by}
use Rattle.sql_tables.specs.Reading.{HasFailed, OnlyReads}
use Rattle.sql_tables.specs.Writing.{Changes, IsKnown}
use Rattle.sql_tables.proofs.OursFacts.{known}
use Rattle.sql_tables.proofs.StopFacts.{was_clean}
use Rattle.bureau_sql.specs.Failing.{CannotWrite, FailsToChange, FailsToEnd, RefusesExcused}
use Rattle.bureau_sql.specs.SqlState.{SqlState}
use Rattle.bureau_sql.specs.SqlView.{shown}
use Rattle.bureau_sql.specs.Told.{IsRefusedFor}
use Rattle.bureau_sql.proofs.RoomFacts.{decide_room}

-- from the end of a transaction to its beginning
module _ (old begun mid new : State) (e : Error) (first : old.faults ≤ begun.faults) (last : mid.faults ≤ new.faults) (same_open : begun.is_open ≡ old.is_open) (same_limit : begun.step_limit ≡ old.step_limit) where
  excused_before : Excuses begun mid e → Excuses old new e
  excused_before (inl memory) = inl memory
  excused_before (inr (inl (inl more))) = inr (inl (inl (omega (arith, more, first, last))))
  excused_before (inr (inl (inr shut))) = inr (inl (inr (sym same_open ∙ shut)))
  excused_before (inr (inr steps)) = inr (inr (subst (λ most. IsSome most) same_limit steps))

  commit_excused : old.faults ≤ mid.faults → IsTrue mid.is_open → IsTrue mid.in_transaction → FailsToCommit mid new e → Excuses old new e
  commit_excused between here inside (inl failed) = by failed.0 failed.1 failed.2
    where
      by : (cause : StoreError) → e ≡ store_error cause → HasCause mid new ⊥ cause → Excuses old new e
      by OutOfMemory is why = inl is
      by Io is why = inr (inl (inl (omega (arith, why, between))))
      by Corrupt is why = inr (inl (inl (omega (arith, why, between))))
      by Full is why = inr (inl (inl (omega (arith, why, between))))
      by Broken is why = absurd (false≢true (sym why ∙ here))
      by Unstorable is why = absurd why
  commit_excused between here inside (inr ended) = absurd (false≢true (sym ended.1 ∙ inside))

-- a transaction that is begun on a connection at rest, written into, and ended
pub transaction_excused : {S : Type 0} (g : Ghosts S) (old begun mid last : Held S) (From To : Database → Type 0) → begun ≡ record old { in_transaction = true }
    → (IsTrue (state g old).is_open → (state g old).now ≡ (state g old).committed) → {Answer Done : Type 0} (written : Result Answer Error) (result : Result Done Error)
    → Leads (state g begun) (state g mid) written From To → IsExcused (state g begun) (state g mid) written From
    → IfErr result (λ error. HasCleanDisk (state g last) → FailsToEnd written (state g mid) (state g last) error)
    → (Commits : Trees → Type 0) → Survives (state g mid) (state g last) Commits → RefusesExcused (state g old) (state g last) result From
transaction_excused g old begun mid last From To is settled written (Ok done) leads excused fails Commits survives = tt
transaction_excused g old begun mid last From To is settled {Answer} {Done} written (Err e) leads excused fails Commits survives = λ clean from. elim (cases_Bool (state g old).is_open) [
  | inl on ↦ by written leads excused (fails clean) clean (subst From (sym (ap (λ h. (state g h).now) is ∙ settled on)) from)
  | inr shut ↦ inr (inl (inr shut))
]
  where
    inside : IsTrue (state g begun).in_transaction
    inside = subst (λ h. IsTrue (state g h).in_transaction) (sym is) refl

    first : (state g old).faults ≤ (state g begun).faults
    first = let same : (state g begun).faults ≡ (state g old).faults = ap (λ h. (state g h).faults) is in omega (arith, same)

    by : (written : Result Answer Error) → Leads (state g begun) (state g mid) written From To → IsExcused (state g begun) (state g mid) written From
        → FailsToEnd written (state g mid) (state g last) e → HasCleanDisk (state g last) → From (state g begun).now → Excuses (state g old) (state g last) e
    by (Err f) leads excused (inl same) clean from =
        let one : f ≡ e = cc in
        excused_before (state g old) (state g begun) (state g mid) (state g last) e first survives.counts (ap (λ h. (state g h).is_open) is) (ap (λ h. (state g h).step_limit) is)
        (subst (Excuses (state g begun) (state g mid)) one (excused (was_clean (state g mid) (state g last) Commits survives clean) inside from))
    by (Err f) leads excused (inr committed) clean from = absurd (cc)
    by (Ok a) leads excused (inl same) clean from = absurd (cc)
    by (Ok a) leads excused (inr committed) clean from =
        let done = leads.done (was_clean (state g mid) (state g last) Commits survives clean) inside in
        let counts = leads.survives.counts in
        commit_excused (state g old) (state g begun) (state g mid) (state g last) e first survives.counts (ap (λ h. (state g h).is_open) is) (ap (λ h. (state g h).step_limit) is)
        (omega (arith, first, counts)) done.0 done.1 committed.1

-- an excuse that isn't want of memory
pub cannot_write : (old new : State) (e : Error) → (e ≡ store_error OutOfMemory → ⊥) → Excuses old new e → CannotWrite old new
cannot_write old new e known (inl memory) = absurd (known memory)
cannot_write old new e known (inr other) = other

-- ---- a change of a store

-- statements that make a change lead on, whatever is known of the rows
pub leads_on : {A F : Type 0} (old new : State) (result : Result A F) (change : Stored → Stored) (From : Database → Type 0) → Changes old new result change → Leads old new result From (λ database. Unit {0})
leads_on {A} {F} old new result change From h = record { keeps = h.keeps; survives = h.survives; done = by result h.done }
  where
    by : (r : Result A F)
        → OnOk r (HasCleanDisk new → IsTrue old.in_transaction → IsTrue new.is_open × IsTrue new.in_transaction × (IsKnown old.now → IsKnown new.now × (held_by new.now ≡ change (held_by old.now)) × (new.now.trees 0 ≡ old.now.trees 0)))
        → OnOk r (HasCleanDisk new → IsTrue old.in_transaction → IsTrue new.is_open × IsTrue new.in_transaction × (From old.now → Unit {0}))
    by (Ok a) done = λ clean inside. let it = done clean inside in (it.0, it.1, λ from. tt)
    by (Err e) done = tt

-- a failure since the change is one since before it
pub since : (old mid new : State) (Commits : Trees → Type 0) → Survives old mid Commits → HasCleanDisk mid → mid.faults ≤ new.faults → HasFailed mid new → HasFailed old new
since old mid new Commits survives clean counts (inl more) = let rose = survives.counts in inl (omega (arith, more, rose, counts))
since old mid new Commits survives clean counts (inr shut) = elim (cases_Bool old.is_open) [
  | inl on ↦ elim (survives.closes clean on) [
    | inl here ↦ absurd (false≢true (sym shut ∙ here))
    | inr more ↦ inl (omega (arith, more, counts))
  ]
  | inr off ↦ inr off
]

still_cannot : (old mid new : State) → mid.faults ≤ new.faults → CannotWrite old mid → CannotWrite old new
still_cannot old mid new counts (inl (inl more)) = inl (inl (omega (arith, more, counts)))
still_cannot old mid new counts (inl (inr shut)) = inl (inr shut)
still_cannot old mid new counts (inr steps) = inr steps

-- the device failed, or memory was too short to see
pub seen_to_fail : {Failed Unseen : Type 0} (fault : StoreFault) → (fault ≡ Device → Failed) → ((fault ≡ Device → ⊥) → Unseen) → Failed ⊎ Unseen
seen_to_fail Memory failed unseen = inr (unseen (λ is. absurd (cc)))
seen_to_fail Device failed unseen = inl (failed refl)
seen_to_fail Size failed unseen = inr (unseen (λ is. absurd (cc)))
seen_to_fail Shape failed unseen = inr (unseen (λ is. absurd (cc)))
seen_to_fail Version failed unseen = inr (unseen (λ is. absurd (cc)))

module _ {S : Type 0} (g : Ghosts S) (update : Update) (conn changed : Held S) (failures : ℕ) (unseen : Bool) (new : SqlState S)
    (Commits : Trees → Type 0) (survives : Survives (state g conn) (state g changed) Commits) (reads : OnlyReads (state g changed) (shown g new)) where
  abbrev before : SqlState S
  before = record { conn = conn; failures = failures; unseen = unseen }

  abbrev between : SqlState S
  between = record { conn = changed; failures = failures; unseen = unseen }

  module _ (made : Result (Unit {0}) Error) (excused : (most : ℕ) → HasRoom update.effect update.last most → RefusesExcused (state g conn) (state g changed) made (IsRoomy most)) where
    why_refused : (fault : StoreFault) → IsRefusedFor g made between new fault → HasCleanDisk (shown g new) → IsOurs (state g conn).committed
        → (most : ℕ) → AreUpTo most (state g conn).committed.trees → HasRoom update.effect update.last most → CannotWrite (state g conn) (shown g new) ⊎ ((fault ≡ Device) × IsTrue new.unseen)
    why_refused fault why clean ours most low room = elim why.2 [
      | inl other ↦ inl (still_cannot (state g conn) (state g changed) (shown g new) counts (cannot_write (state g conn) (state g changed) why.0 other excuses))
      | inr later ↦ elim later [
        | inl failed ↦ inl (inl (since (state g conn) (state g changed) (shown g new) Commits survives still_clean counts failed))
        | inr unknown ↦ inr unknown
      ]
    ]
      where
        still_clean : HasCleanDisk (state g changed)
        still_clean = was_clean (state g changed) (shown g new) (λ trees. ⊥) reads.survives clean

        counts : (state g changed).faults ≤ (shown g new).faults
        counts = reads.survives.counts

        excuses : Excuses (state g conn) (state g changed) why.0
        excuses = subst (λ (r : Result (Unit {0}) Error). RefusesExcused (state g conn) (state g changed) r (IsRoomy most)) why.1 (excused most room) still_clean (known (state g conn).committed ours, low)

    told_so : (fault : StoreFault) → (fault ≡ Memory → ⊥) → ((fault ≡ Memory → ⊥) → HasCleanDisk (shown g new) → IsRefusedFor g made between new fault) → FailsToChange g update before new fault
    told_so fault other why = λ clean ours standing. elim (decide_room (state g conn).committed.trees update) [
      | inl room ↦ inr (inr (why_refused fault (why other clean) clean (ours.1 standing).1 room.0 room.1 room.2))
      | inr none ↦ inr (inl none)
    ]

    told_each : (answer : Result (Unit {0}) StoreFault) → IfErr answer (λ fault. (fault ≡ Memory → ⊥) → HasCleanDisk (shown g new) → IsRefusedFor g made between new fault) → IfErr answer IsOfCall → IfErr answer (FailsToChange g update before new)
    told_each (Ok done) why of_call = tt
    told_each (Err Memory) why of_call = λ clean ours standing. inl refl
    told_each (Err Device) why of_call = told_so Device (λ is. absurd (cc)) why
    told_each (Err Size) why of_call = told_so Size (λ is. absurd (cc)) why
    told_each (Err Shape) why of_call = absurd of_call
    told_each (Err Version) why of_call = absurd of_call

    pub fails_to_change : (old : SqlState S) → record { conn = conn; failures = failures; unseen = unseen } ≡ old → (answer : Result (Unit {0}) StoreFault)
        → IfErr answer (λ fault. (fault ≡ Memory → ⊥) → HasCleanDisk (shown g new) → IsRefusedFor g made between new fault) → IfErr answer IsOfCall → IfErr answer (FailsToChange g update old new)
    fails_to_change old same answer why of_call = subst (λ (it : SqlState S). IfErr answer (FailsToChange g update it new)) same (told_each answer why of_call)

-- a store that was closed before
pub closed_fails : {S A : Type 0} (g : Ghosts S) (update : Update) (old new : SqlState S) (answer : Result A StoreFault) → 0 < old.failures → IfErr answer (FailsToChange g update old new)
closed_fails g update old new (Ok done) closed = tt
closed_fails g update old new (Err fault) closed = λ clean ours standing. absurd (omega (arith, standing, closed))
