-- What is left of a file of version 1 that was made one of version 2, or was not.
use Rattle.std.proofs.Common.{◌≡◌, ◌≢◌, ◌⊎◌, ◌∙◌, ℕ, Err, IsTrue, List, Ok, OnErr, OnOk, Result, Some, ap, arith, false, inl, inr, refl, subst, sym}
use Rattle.std.specs.Prelude.{IsSome}
use Rattle.std.proofs.lemmas.Bool.{cases_Bool}
use Rattle.bureau_store.specs.Store.{IsOfCall}
use Rattle.bureau_store.specs.declared.fault.StoreFault.{StoreFault}
use Rattle.bureau_store.specs.declared.fault.StoreFault.TheVariants.{Device, Memory, Shape, Size, Version}
use Rattle.sqlite.specs.Effect.{Database}
use Rattle.sqlite.specs.State.{HasCleanDisk, KeepsCommit, State, Survives, store_error}
use Rattle.sqlite.specs.declared.error.Error.{Error}
use Rattle.sqlite_trees.specs.Tree.{Trees}
use Rattle.sqlite_trees.specs.declared.error.StoreError.TheVariants.{OutOfMemory}
use Rattle.sqlite.proofs.StateLemmas.{survives_then}
use Rattle.sqlite_catalog.specs.Listing.{IsSound}
use Rattle.sql_tables.specs.Earlier.{IsOfVersion1, held_by_version_1}
use Rattle.sql_tables.specs.Ours.{IsOurs, version_rows}
use Rattle.sql_tables.specs.Reading.{HasFailed, OnlyReads}
use Rattle.sql_tables.specs.Whole.{IsWhole}
use Rattle.sql_writes.specs.Migrating.{HeldEarlier, HoldsAll, IsMigration}
use Rattle.sql_tables.proofs.StopFacts.{failed_before, kept_then, was_clean}
use Rattle.sql_writes.specs.Excused.{Excuses}
use Rattle.bureau_sql.specs.Failing.{CannotWrite}
use Rattle.bureau_sql.proofs.FailingFacts.{cannot_write, since}
use Rattle.bureau_sql.specs.Founded.{AreLed, IsLed}
use Rattle.bureau_sql.specs.Migrated.{AreMigrated, IsMigrated, IsUntouched, LeavesUntouched}
use Rattle.bureau_sql.specs.Opening.{HasTables, IsNotEarlier, IsTaken, IsUnderstood, TellsVersion}
use Rattle.sql_texts.specs.Meaning.{MakesTable}
use Rattle.sql_texts.specs.Schema.{bureau, bureau_1, sysmod_cond}
use Rattle.bureau_sql.specs.SqlView.{IsAtRest}

-- ---- a refusal before the transaction

pub untouched_by : (old new : State) → OnlyReads old new → IsUntouched old new
untouched_by old new reads = record {
  keeps = reads.keeps;
  left = λ clean trees may. elim (reads.survives.crash clean trees may) [
    | inl was ↦ inl was
    | inr none ↦ absurd none
  ];
}

-- ---- the transaction, after the connection was looked at

-- what was seen of the database, where a text that makes the table of version 2 means something
pub taken_so : (text : List ℕ) (new : State) (database : Database) → MakesTable bureau_1 text sysmod_cond bureau → (HasCleanDisk new → TellsVersion (Some 1) database)
    → (HasCleanDisk new → HasTables database.schema) → (HasCleanDisk new → IsUnderstood database.schema text) → HasCleanDisk new → IsTaken database
taken_so text new database makes version tables means clean =
    record { version = (version clean).has; tables = tables clean; conditions = (text, makes, means clean) }

-- a stop leaves what is so in both ways
both_left : (old new : State) (One Two : Trees → Type 0) → Survives old new One → Survives old new Two → Survives old new (λ trees. One trees × Two trees)
both_left old new One Two one two = record {
  clean = one.clean;
  shield = one.shield;
  counts = one.counts;
  limit = one.limit;
  closes = one.closes;
  crash = λ clean trees may. elim (one.crash clean trees may) [
    | inl was ↦ inl was
    | inr first ↦ elim (two.crash clean trees may) [ inl was ↦ inl was | inr second ↦ inr (first, second) ]
  ];
}

module _ (old mid new : State) (reads : OnlyReads old mid) (is_open : HasCleanDisk mid → IsTrue mid.is_open)
    (taken : HasCleanDisk mid → IsTaken old.committed) {A F : Type 0} (result : Result A F) (led : IsMigrated mid new result) where
  at_mid : HasCleanDisk new → HasCleanDisk mid
  at_mid = was_clean mid new (AreLed mid (HeldEarlier (held_by_version_1 mid.committed)) (HoldsAll (version_rows 2) (held_by_version_1 mid.committed))) led.survives

  same : HasCleanDisk mid → mid.committed ≡ old.committed
  same clean = (reads.keeps clean).committed (is_open clean)

  pub brought_survives : IsLed mid new result (λ database. database ≡ mid.committed) (IsMigration mid.committed) → (HasCleanDisk mid → IsOurs old.committed → ⊥) → Survives old new (AreMigrated old)
  brought_survives done other =
      survives_then old mid new (λ trees. ⊥)
      (λ trees. AreLed mid (HeldEarlier (held_by_version_1 mid.committed)) (HoldsAll (version_rows 2) (held_by_version_1 mid.committed)) trees
      × AreLed mid (λ database. database ≡ mid.committed) (IsMigration mid.committed) trees) (AreMigrated old)
      (λ clean trees none. absurd none)
      (λ clean trees made.
      let before = at_mid clean in
      let is = same before in
      record {
        was_open = (reads.keeps before).was_open made.0.0;
        taken = taken before;
        other = other before;
        made = subst (λ database. (after : Database) × IsMigration database after × (after.trees ≡ trees)) is (made.1.1 refl);
        led = λ from.
            subst (λ database. (after : Database) × HoldsAll (version_rows 2) (held_by_version_1 database) after × (after.trees ≡ trees)) is
            (made.0.1 (record { ours = subst IsOfVersion1 (sym is) from; held = refl }));
      })
      reads.survives (both_left mid new _ _ led.survives done.survives)

  pub brought_held : OnOk result (HasCleanDisk new → IsOfVersion1 old.committed → HoldsAll (version_rows 2) (held_by_version_1 old.committed) new.committed)
  brought_held = by result led.done
    where
      by : (r : Result A F) → OnOk r (HasCleanDisk new → IsTrue mid.is_open × IsTrue new.is_open
          × (HeldEarlier (held_by_version_1 mid.committed) mid.committed → HoldsAll (version_rows 2) (held_by_version_1 mid.committed) new.committed))
          → OnOk r (HasCleanDisk new → IsOfVersion1 old.committed → HoldsAll (version_rows 2) (held_by_version_1 old.committed) new.committed)
      by (Err e) done = tt
      by (Ok a) done = λ clean was.
          let is = same (at_mid clean) in
          subst (λ database. HoldsAll (version_rows 2) (held_by_version_1 database) new.committed) is
          ((done clean).2 (record { ours = subst IsOfVersion1 (sym is) was; held = refl }))

  pub brought_keeps : OnErr result (HasCleanDisk new → KeepsCommit old new)
  brought_keeps = by result led.refused
    where
      by : (r : Result A F) → OnErr r (HasCleanDisk new → KeepsCommit mid new) → OnErr r (HasCleanDisk new → KeepsCommit old new)
      by (Ok a) refused = tt
      by (Err e) refused = λ clean. kept_then old mid new (reads.keeps (at_mid clean)) (refused clean)

-- ---- a refusal of the transaction, after which the connection is looked at

module _ (old mid new : State) (reads : OnlyReads mid new) where
  clean_mid : HasCleanDisk new → HasCleanDisk mid
  clean_mid = was_clean mid new (λ trees. ⊥) reads.survives

  pub refused_survives : Survives old mid (AreMigrated old) → Survives old new (AreMigrated old)
  refused_survives survives = survives_then old mid new (AreMigrated old) (λ trees. ⊥) (AreMigrated old) (λ clean trees made. made) (λ clean trees none. absurd none) survives reads.survives

  pub refused_keeps : (HasCleanDisk mid → KeepsCommit old mid) → HasCleanDisk new → KeepsCommit old new
  refused_keeps keeps clean = kept_then old mid new (keeps (clean_mid clean)) (reads.keeps clean)

  pub refused_untouched : (HasCleanDisk mid → KeepsCommit old mid) → (HasCleanDisk new → IsTrue new.is_open) → IsAtRest new → IsUntouched old new
  refused_untouched keeps is_open rests = record {
    keeps = refused_keeps keeps;
    left = λ clean trees may.
        let here = is_open clean in
        let kept = refused_keeps keeps clean in
        inr (kept.was_open here, rests trees here may ∙ ap (λ (database : Database). database.trees) (kept.committed here));
  }

-- why the transaction failed, where the database is ours
pub failed_to_migrate : (old held migrated last : State) (error : Error) → OnlyReads old held → (HasCleanDisk held → IsTrue held.is_open)
    → (Leaves : Trees → Type 0) → Survives held migrated Leaves → OnlyReads migrated last → (HasCleanDisk migrated → IsOfVersion1 held.committed → Excuses held migrated error)
    → HasCleanDisk last → (error ≢ store_error OutOfMemory) ⊎ HasFailed migrated last → IsOfVersion1 old.committed → CannotWrite old last
failed_to_migrate old held migrated last error reads is_open Leaves survives later excused clean why ours = by why
  where
    at_migrated : HasCleanDisk migrated
    at_migrated = was_clean migrated last (λ trees. ⊥) later.survives clean

    at_held : HasCleanDisk held
    at_held = was_clean held migrated Leaves survives at_migrated

    before_all : HasFailed held last → HasFailed old last
    before_all = since old held last (λ trees. ⊥) reads.survives at_held (let one = survives.counts in let two = later.survives.counts in omega (arith, one, two))

    lifted : CannotWrite held migrated → CannotWrite old last
    lifted (inl failed) = inl (before_all (failed_before held migrated last failed later.survives.counts))
    lifted (inr steps) = inr (subst (λ most. IsSome most) reads.survives.limit steps)

    by : (error ≢ store_error OutOfMemory) ⊎ HasFailed migrated last → CannotWrite old last
    by (inl known) = lifted (cannot_write held migrated error known (excused at_migrated (subst IsOfVersion1 (sym ((reads.keeps at_held).committed (is_open at_held))) ours)))
    by (inr failed) = inl (before_all (since held migrated last Leaves survives at_migrated later.survives.counts failed))

-- the change was begun, and is refused for want of memory or room, or the device failed
pub of_call : (old new : State) (fault : StoreFault) → IsOfCall fault → IsTaken old.committed → (fault ≢ Memory → IsOfVersion1 old.committed → CannotWrite old new) → IsNotEarlier old new fault
of_call old new Memory of taken why = tt
of_call old new Device of taken why = inr (inr (taken, why (λ same. cc)))
of_call old new Size of taken why = (taken, why (λ same. cc))
of_call old new Shape of taken why = absurd of
of_call old new Version of taken why = absurd of

-- what is left after a refusal for anything but the device
pub left_untouched : (old held mid new : State) (fault : StoreFault) → OnlyReads old held → (HasCleanDisk held → IsTrue held.is_open) → Survives old mid (AreMigrated old)
    → (HasCleanDisk mid → HasCleanDisk held) → OnlyReads mid new → (HasCleanDisk mid → KeepsCommit old mid) → (fault ≢ Device → fault ≢ Memory → HasCleanDisk new → IsTrue new.is_open) → IsAtRest new
    → LeavesUntouched old new fault
left_untouched old held mid new fault sooner is_open survives at_held later keeps seen rests clean other = elim (cases_Bool new.is_open) [
  | inl here ↦ inl (refused_untouched old mid new later keeps (λ again. here) rests)
  | inr shut ↦ inr (by fault other seen shut, failed shut)
]
  where
    at_mid : HasCleanDisk mid
    at_mid = was_clean mid new (λ trees. ⊥) later.survives clean

    was_open : IsTrue old.is_open
    was_open = let before = at_held at_mid in (sooner.keeps before).was_open (is_open before)

    failed : new.is_open ≡ false → HasFailed old new
    failed shut = elim ((refused_survives old mid new later survives).closes clean was_open) [
      | inl here ↦ absurd (let never = sym shut ∙ here in cc)
      | inr more ↦ inl more
    ]

    by : (fault : StoreFault) → fault ≢ Device → (fault ≢ Device → fault ≢ Memory → HasCleanDisk new → IsTrue new.is_open) → new.is_open ≡ false → fault ≡ Memory
    by Memory other seen shut = refl
    by Device other seen shut = absurd (other refl)
    by Size other seen shut = absurd (let here = seen other (λ same. cc) clean in let never = sym shut ∙ here in cc)
    by Shape other seen shut = absurd (let here = seen other (λ same. cc) clean in let never = sym shut ∙ here in cc)
    by Version other seen shut = absurd (let here = seen other (λ same. cc) clean in let never = sym shut ∙ here in cc)

-- ---- a file that was made one of version 2 is ours

pub after_is_ours : (before after : Database) → IsOfVersion1 before → HoldsAll (version_rows 2) (held_by_version_1 before) after → IsOurs after
after_is_ours before after was is = record {
  schema = is.known.schema;
  rows = record {
    sound = subst (λ schema. IsSound schema after.trees) is.known.schema is.known.sound;
    numbered = is.known.numbered;
    version = is.version;
    whole = subst IsWhole (sym is.held) was.rows.whole;
  };
}
