-- What a stop leaves of the files of a store that `init` makes or `migrate` brings to version 2.
use Rattle.std.proofs.Common.{◌≡◌, ◌⊎◌, ◌∙◌, List, ℕ, Option, None, Some, ap, inl, inr, refl, subst, sym}
use Rattle.std.proofs.Math.Logic.{∥∥₁_map}
use Rattle.faults.specs.declared.any.AnyFault.{AnyFault}
use Rattle.bureau_store.specs.Tables.{Tables, opened}
use Rattle.bureau_store.specs.declared.caller.CallerRow.{CallerRow}
use Rattle.bureau_sql.specs.Files.{HoldTrees, HoldsEarlier, HoldsStore}
use Rattle.bureau_sql.specs.SqlView.{IsAtRest}
use Rattle.bureau_sql.proofs.CallersFacts.{callers_named}
use Rattle.bureau_sql.proofs.FilesFacts.{earlier_found, store_found}
use Rattle.bureau_sql.proofs.FoundedFacts.{ours_new, tables_new}
use Rattle.bureau_sql.specs.Migrated.{AreMigrated}
use Rattle.sql_tables.specs.Earlier.{AreOfVersion1, IsOfVersion1, held_by_version_1}
use Rattle.sql_tables.specs.Ours.{AreOurs}
use Rattle.sql_tables.proofs.StopFacts.{was_clean}
use Rattle.sql_tables.specs.InTrees.{stored_in}
use Rattle.sql_tables.specs.Stored.{Stored, tables_of}
use Rattle.bureau_sql.proofs.MigratedFacts.{after_is_ours}
use Rattle.sql_writes.specs.Making.{IsOpened}
use Rattle.sqlite_catalog.specs.Listing.{IsSound}
use Rattle.sqlite_disk.specs.declared.Disk as disk
use Rattle.sqlite_store.specs.FileStore.{view}
use Rattle.sqlite_store.specs.declared.store.FileStore.{FileStore}
use Rattle.sqlite_trees.specs.Tree.{Trees}
use Rattle.sqlite_trees.specs.View.{IsClean}
use Rattle.sqlite_wal.specs.Recovery.{Image}
use Rattle.sqlite.specs.Effect.{Database}
use Rattle.sqlite.specs.Files.{AreFoundIn, HoldsDatabase, IsNothing, file_state}
use Rattle.sqlite.specs.Held.{Held}
use Rattle.sqlite.specs.State.{HasCleanDisk, Survives}
use Rattle.store_runs.specs.Desk.{AreFoundedBy, AreRowsOf, HasCallers, InitSurvives, IsInitLeft, LeavesMade}
use Rattle.store_runs.specs.Ended.{HasEnded, HasFound, IsLeftOver, IsUsed}
use Rattle.store_runs.specs.Keeping.{AreMadeFor, HasNoTables, HoldCallers, IsDone, Keeps, KeepsMade, KeepsMigrated, KeepsTables, Leaves}
use Rattle.store_runs.specs.Migrating.{HasMigrated, IsMigrateLeft, LeavesMigrated}
use Rattle.store_runs.specs.declared.ended.Ended.{Ended}
use Rattle.store_runs.specs.declared.ended.Ended.TheVariants.{Nothing, Left, Closed}
use Rattle.store_runs.proofs.DoneFacts.{never_done, never_refused, no_store_fault, some_same}
use Rattle.store_runs.proofs.EndFacts.{left_of}
use Rattle.store_runs.proofs.LeftFacts.{found_nothing}
use Rattle.store_runs.proofs.StayFacts.{earlier_stays, kept_earlier, kept_tables, store_stays}

-- ---- init

-- the trees of a store that was made are the bureau's own
made_for : (source : List ℕ) (trees : Trees) (rows : List CallerRow) → AreRowsOf source rows → (database : Database) × IsOpened rows database × (database.trees ≡ trees)
    → AreMadeFor source trees
made_for source trees rows rows_are made =
    let named = callers_named source rows rows_are in
    record {
      rows = rows;
      rows_are = rows_are;
      made = made;
      ours = subst AreOurs made.2 (ours_new rows made.0 named made.1).rows;
      tables = subst (λ (trees : Trees). tables_of (stored_in trees) ≡ opened rows) made.2 (tables_new rows made.0 named made.1);
    }

module _ {D : Type 0} {g : disk.Ghosts D} (from : Image) (source : List ℕ) (found left : Held (FileStore D g)) (finds : HasFound from found) (rests : IsAtRest (file_state found))
    (stopped : InitSurvives source (file_state found) (file_state left)) (last : FileStore D g) (ends : HasEnded left last) where
  clean : IsClean (view last) → HasCleanDisk (file_state found)
  clean still = was_clean (file_state found) (file_state left) (AreFoundedBy source (file_state found)) stopped (ends.clean still)

  -- what was committed, and is left or was made something else where it had no tables
  there_or_made : IsClean (view last) → (trees : Trees) → (file_state left).may_leave trees
      → (trees ≡ (file_state found).committed.trees) ⊎ (HasNoTables (file_state found).committed.trees × AreMadeFor source trees)
  there_or_made still trees may =
      let opened = finds.opened (clean still) in
      elim (stopped.crash (ends.clean still) trees may) [
        | inl was ↦ inl (rests trees opened.0.is_open was)
        | inr made ↦
            let sound = (opened.1 opened.0.is_open).1 in
            inr (subst (λ schema. IsSound schema (file_state found).committed.trees) made.2.1 sound, made_for source trees made.0 made.1 made.2.2)
      ]

  held : IsClean (view last) → (image : Image) → Leaves from (Closed last) image → HoldTrees (file_state left).may_leave image
  held still image may = left_of from left last ends still image may

  found_or_made : Keeps from (Closed last) (HoldTrees (λ now. AreFoundIn from now ⊎ AreMadeFor source now))
  found_or_made still image may = ∥∥₁_map (held still image may) (λ it.
      let either : AreFoundIn from it.0 ⊎ AreMadeFor source it.0 = elim (there_or_made still it.0 it.2) [
        | inl same ↦ inl (subst (AreFoundIn from) (sym same) (finds.found (clean still)).reads)
        | inr made ↦ inr made.1
      ] in
      let r : (trees : Trees) × HoldsDatabase image trees × (AreFoundIn from trees ⊎ AreMadeFor source trees) = (it.0, it.1, either) in r)

  stays : (trees : Trees) → HoldsDatabase from trees → Keeps from (Closed last) (HoldTrees (λ now. (now ≡ trees) ⊎ (HasNoTables trees × AreMadeFor source now)))
  stays trees holds still image may =
      let same : (file_state found).committed.trees ≡ trees = (finds.found (clean still)).holds trees holds in
      ∥∥₁_map (held still image may) (λ it.
      let either : (it.0 ≡ trees) ⊎ (HasNoTables trees × AreMadeFor source it.0) = elim (there_or_made still it.0 it.2) [
        | inl is ↦ inl (is ∙ same)
        | inr made ↦ inr (subst HasNoTables same made.0, made.1)
      ] in
      let r : (now : Trees) × HoldsDatabase image now × ((now ≡ trees) ⊎ (HasNoTables trees × AreMadeFor source now)) = (it.0, it.1, either) in r)

  begins : IsNothing from → Keeps from (Closed last) (λ left. IsNothing left ⊎ HoldTrees (λ now. HasNoTables now ⊎ AreMadeFor source now) left)
  begins nothing still image may = inr (∥∥₁_map (held still image may) (λ it.
      let either : HasNoTables it.0 ⊎ AreMadeFor source it.0 = elim (there_or_made still it.0 it.2) [
        | inl same ↦ inl (subst HasNoTables (sym same) (found_nothing from _ nothing (finds.found (clean still)).reads))
        | inr made ↦ inr made.1
      ] in
      let r : (trees : Trees) × HoldsDatabase image trees × (HasNoTables trees ⊎ AreMadeFor source trees) = (it.0, it.1, either) in r))

  -- the tables were made
  has_callers : (outcome : Option AnyFault) → IsInitLeft outcome source (file_state found) (file_state left) → IsDone outcome → HasCallers source (file_state left)
  has_callers None is done = is
  has_callers (Some fault) is (inl other) = absurd cc
  has_callers (Some fault) (inl lost) (inr same) = lost.1
  has_callers (Some fault) (inr refused) (inr same) = absurd (never_refused source (file_state found) (file_state left) fault (some_same fault _ same) refused.0)

  callers : (outcome : Option AnyFault) → IsInitLeft outcome source (file_state found) (file_state left) → IsDone outcome → Keeps from (Closed last) (HoldCallers source)
  callers outcome is done still image may =
      let made = has_callers outcome is done (ends.clean still) in (
        made.0,
        made.1,
        ∥∥₁_map (held still image may) (λ it.
            let same = made.2.rests it.0 made.2.is_open it.2 in
            let store : HoldsStore image (opened made.0) = record {
              trees = it.0;
              held = it.1;
              ours = subst AreOurs (sym same) made.2.ours.rows;
              tables = ap (λ trees. tables_of (stored_in trees)) same ∙ made.2.tables;
            } in
            let r : (this : Tables) × HoldsStore image this × (this ≡ opened made.0) = (opened made.0, store, refl) in r),
      )

  pub made_closed : (outcome : Option AnyFault) → IsInitLeft outcome source (file_state found) (file_state left) → KeepsMade from source outcome (Closed last)
  made_closed outcome is = record {
    found = found_or_made;
    stays = stays;
    begins = begins;
    store = store_stays from (Closed last) (AreMadeFor source) stays;
    earlier = earlier_stays from (Closed last) (AreMadeFor source) stays;
    made = callers outcome is;
  }

pub kept_made : {D : Type 0} {g : disk.Ghosts D} (from : Image) (source : List ℕ) (outcome : Option AnyFault) (ended : Ended D g) → LeavesMade from source outcome ended
    → KeepsMade from source outcome ended
kept_made from source outcome Nothing used = absurd used.ends
kept_made from source outcome (Left it) used = absurd used.ends
kept_made from source outcome (Closed last) used =
    made_closed from source used.found used.left used.finds used.used.0 used.used.2 last used.ends outcome used.used.1

-- ---- migrate

-- the rows of trees of version 1
earlier_in : Database → Trees → Stored
earlier_in database trees = held_by_version_1 (record database { trees = trees })

module _ {D : Type 0} {g : disk.Ghosts D} (from : Image) (before : Tables) (holds : HoldsEarlier from before) (found left : Held (FileStore D g)) (finds : HasFound from found)
    (rests : IsAtRest (file_state found)) (stopped : Survives (file_state found) (file_state left) (AreMigrated (file_state found)))
    (last : FileStore D g) (ends : HasEnded left last) (still : IsClean (view last)) where
  clean_found : HasCleanDisk (file_state found)
  clean_found = was_clean (file_state found) (file_state left) (AreMigrated (file_state found)) stopped (ends.clean still)

  there : IsOfVersion1 (file_state found).committed × (tables_of (held_by_version_1 (file_state found).committed) ≡ before)
  there =
      let opened = finds.opened clean_found in
      earlier_found from (file_state found).committed before (opened.1 opened.0.is_open).1 (finds.found clean_found).holds holds

  either : (image : Image) (trees : Trees) → HoldsDatabase image trees → (file_state left).may_leave trees → HoldsEarlier image before ⊎ HoldsStore image before
  unfolding earlier_in
  either image trees held may = elim (stopped.crash (ends.clean still) trees may) [
    | inl was ↦ (
        let same = rests trees (finds.opened clean_found).0.is_open was in
        let r : HoldsEarlier image before = record {
          trees = trees;
          held = held;
          ours = subst AreOfVersion1 (sym same) there.0.rows;
          tables = ap (λ trees. tables_of (earlier_in (file_state found).committed trees)) same ∙ there.1;
        } in inl r)
    | inr made ↦ (
        let it = made.led there.0 in
        let ours = after_is_ours (file_state found).committed it.0 there.0 it.1 in
        let r : HoldsStore image before = record {
          trees = trees;
          held = held;
          ours = subst AreOurs it.2 ours.rows;
          tables = ap (λ trees. tables_of (stored_in trees)) (sym it.2) ∙ ap tables_of it.1.held ∙ there.1;
        } in inr r)
  ]

  has_migrated : (outcome : Option AnyFault) → IsMigrateLeft outcome (file_state found) (file_state left) → IsDone outcome → HasMigrated (file_state found) (file_state left)
  has_migrated None is done = is
  has_migrated (Some fault) is (inl other) = absurd cc
  has_migrated (Some fault) (inl lost) (inr same) = lost.1
  has_migrated (Some fault) (inr refused) (inr same) = absurd (no_store_fault refused.0 (sym (some_same fault _ same) ∙ refused.1))

  brought : (outcome : Option AnyFault) → IsMigrateLeft outcome (file_state found) (file_state left) → IsDone outcome
      → (image : Image) → Leaves from (Closed last) image → ∥ HoldsStore image before ∥₁
  brought outcome is done image may =
      let to = (has_migrated outcome is done (ends.clean still)).3 there.0 in
      ∥∥₁_map (left_of from left last ends still image may) (λ it.
      let same = to.rests it.0 to.is_open it.2 in
      let r : HoldsStore image before = record {
        trees = it.0;
        held = it.1;
        ours = subst AreOurs (sym same) to.ours.rows;
        tables = ap (λ trees. tables_of (stored_in trees)) same ∙ to.tables ∙ there.1;
      } in r)

  pub either_left : (image : Image) → Leaves from (Closed last) image → ∥ HoldsEarlier image before ⊎ HoldsStore image before ∥₁
  either_left image may = ∥∥₁_map (left_of from left last ends still image may) (λ it. either image it.0 it.1 it.2)

-- no connection to the files could be made
earlier_left : {D : Type 0} {g : disk.Ghosts D} (from : Image) (outcome : Option AnyFault) (ended : Ended D g) → (IsDone outcome → ⊥) → IsLeftOver from ended → KeepsMigrated from outcome ended
earlier_left from outcome ended other of = record {
  earlier = λ before holds well left may. ∥∥₁_map (kept_earlier from ended of before holds well left may) inl;
  brought = λ done. absurd (other done);
  store = kept_tables from ended of;
}

-- a store of version 2 is not taken
module _ {D : Type 0} {g : disk.Ghosts D} (from : Image) (found left : Held (FileStore D g)) (finds : HasFound from found) (rests : IsAtRest (file_state found))
    (stopped : Survives (file_state found) (file_state left) (AreMigrated (file_state found))) (last : FileStore D g) (ends : HasEnded left last) where
  store_kept : KeepsTables from (Closed last)
  store_kept before holds still image may =
      let clean = was_clean (file_state found) (file_state left) (AreMigrated (file_state found)) stopped (ends.clean still) in
      let opened = finds.opened clean in
      let there = store_found from (file_state found).committed before (opened.1 opened.0.is_open).1 (finds.found clean).holds holds in
      ∥∥₁_map (left_of from left last ends still image may) (λ it.
      let same : it.0 ≡ (file_state found).committed.trees = elim (stopped.crash (ends.clean still) it.0 it.2) [
        | inl was ↦ rests it.0 opened.0.is_open was
        | inr made ↦ absurd (made.other there.0)
      ] in
      let store : HoldsStore image before = record {
        trees = it.0;
        held = it.1;
        ours = subst AreOurs (sym same) there.0.rows;
        tables = ap (λ trees. tables_of (stored_in trees)) same ∙ there.1;
      } in
      let r : (this : Tables) × HoldsStore image this × (this ≡ before) = (before, store, refl) in r)

closed_left : {D : Type 0} {g : disk.Ghosts D} (from : Image) (outcome : Option AnyFault) (last : FileStore D g)
    → (used : IsUsed from (λ found left. IsAtRest (file_state found) × IsMigrateLeft outcome (file_state found) (file_state left) × Survives (file_state found) (file_state left) (AreMigrated (file_state found))) (Closed last))
    → KeepsMigrated from outcome (Closed last)
closed_left from outcome last used = record {
  earlier = λ before holds still. either_left from before holds used.found used.left used.finds used.used.0 used.used.2 last used.ends still;
  brought = λ none before holds still. brought from before holds used.found used.left used.finds used.used.0 used.used.2 last used.ends still outcome used.used.1 none;
  store = store_kept from used.found used.left used.finds used.used.0 used.used.2 last used.ends;
}

pub kept_migrated : {D : Type 0} {g : disk.Ghosts D} (from : Image) (outcome : Option AnyFault) (ended : Ended D g) → LeavesMigrated from outcome ended → KeepsMigrated from outcome ended
kept_migrated from outcome ended (inl refused) = earlier_left from outcome ended (λ done. never_done refused.0 outcome refused.1 done) refused.2.left
kept_migrated from outcome Nothing (inr used) = absurd used.ends
kept_migrated from outcome (Left it) (inr used) = absurd used.ends
kept_migrated from outcome (Closed last) (inr used) = closed_left from outcome last used
