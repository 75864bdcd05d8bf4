-- The contents of a store's files from one run to the next, whenever a run stops.
use Rattle.std.specs.Prelude.{◌≡◌, ◌⊎◌, ℕ, IsTrue, List, Option, None, Some}
use Rattle.faults.specs.declared.any.AnyFault.{AnyFault}
use Rattle.bureau_store.specs.Tables.{Tables, opened}
use Rattle.bureau_store.specs.declared.caller.CallerRow.{CallerRow}
use Rattle.bureau_store.specs.declared.fault.StoreFault.{StoreFault}
use Rattle.bureau_sql.specs.Files.{HoldTables, HoldTrees, HoldsEarlier, HoldsStore}
use Rattle.sql_tables.specs.Ours.{AreOurs}
use Rattle.sql_tables.specs.InTrees.{stored_in}
use Rattle.sql_tables.specs.Stored.{tables_of}
use Rattle.sql_texts.specs.Schema.{made}
use Rattle.sql_writes.specs.Making.{IsOpened}
use Rattle.sqlite_catalog.specs.Listing.{IsSound}
use Rattle.sqlite_disk.specs.declared.Disk as disk
use Rattle.sqlite_wal.specs.Files.{outcomes}
use Rattle.sqlite_wal.specs.Recovery.{Image}
use Rattle.sqlite_pool.specs.Stored.{is_summed}
use Rattle.sqlite_trees.specs.Tree.{Trees}
use Rattle.sqlite_trees.specs.View.{IsClean}
use Rattle.sqlite_store.specs.FileStore as files
use Rattle.sqlite_store.specs.FileStore.{recovers, view}
use Rattle.sqlite_store.specs.Unopened.{state_of}
use Rattle.sqlite.specs.Effect.{Database}
use Rattle.sqlite.specs.Files as sqlite
use Rattle.sqlite.specs.Files.{AreFoundIn, HoldsDatabase, IsCleanLeft}
use Rattle.sqlite.specs.declared.file.Leftover.{Leftover}
use Rattle.sqlite.specs.declared.file.Leftover.TheVariants as left
use Rattle.run_parts.specs.ProgramFault.{of_program}
use Rattle.run_parts.specs.declared.fault.ProgramFault.TheVariants.{NotWritten}
use Rattle.store_runs.specs.Desk.{AreRowsOf}
use Rattle.store_runs.specs.Ended.{IsNothing}
use Rattle.store_runs.specs.declared.ended.Ended.{Ended}
use Rattle.store_runs.specs.declared.ended.Ended.TheVariants.{Nothing, Left, Closed}

-- ---- a run that makes a store

-- the trees of a database that has no table, no index and no view
abbrev pub HasNoTables : Trees → Type 0
HasNoTables trees = IsSound (made 0 0) trees

-- The trees are those of a store with the callers of the callers file, and of nothing else. So files that hold them hold the bureau's
-- own store with these callers.
pub record AreMadeFor (source : List ℕ) (trees : Trees) : Type 0 where
  pub rows : List CallerRow
  pub rows_are : AreRowsOf source rows
  pub made : (database : Database) × IsOpened rows database × (database.trees ≡ trees)
  pub ours : AreOurs trees
  pub tables : tables_of (stored_in trees) ≡ opened rows

-- the files hold the bureau's own store, with the callers of the callers file and nothing else
abbrev pub HoldCallers : List ℕ → Image → Type 0
HoldCallers source image = (rows : List CallerRow) × AreRowsOf source rows × HoldTables image (λ this. this ≡ opened rows)

-- ---- wherever a run ends

-- A run of `init` or `migrate` has done what it was for: it ended without a fault, or only its line could not be written.
abbrev pub IsDone : Option AnyFault → Type 0
IsDone outcome = (outcome ≡ None) ⊎ (outcome ≡ Some (of_program NotWritten))

module _ {D : Type 0} {g : disk.Ghosts D} where
  -- a stop may leave these of the two files
  abbrev pub MayLeave : Leftover D g → Image → Type 0
  MayLeave (left.Files now) image = outcomes g now.log now.db image
  MayLeave (left.Unopened now) image = (state_of now).may_leave image
  MayLeave (left.Store now) image = (files.state now).may_leave image

  -- The facts on an open that failed which the toolchain promises nowhere, and which are taken on trust. If it was replaying
  -- the log, it took the pages of a file that end in sums for such. If it was checking what it found, the trees are
  -- numbered, as it found them.
  abbrev pub IsUsual : Image → Leftover D g → Type 0
  IsUsual from (left.Files now) = Unit {0}
  IsUsual from (left.Unopened now) =
      (trees : Trees) (it : HoldsDatabase from trees) → IsTrue (is_summed it.0) → IsTrue (is_summed (state_of now).page_size)
  IsUsual from (left.Store now) = IsTrue (view now).is_numbered

  -- the disk returned what was written
  abbrev pub HadCleanDisk : Ended D g → Type 0
  HadCleanDisk Nothing = Unit {0}
  HadCleanDisk (Left it) = IsCleanLeft it
  HadCleanDisk (Closed last) = IsClean (view last)

  -- it did, and those facts are true
  abbrev pub EndsWell : Image → Ended D g → Type 0
  EndsWell from Nothing = Unit {0}
  EndsWell from (Left it) = IsCleanLeft it × IsUsual from it
  EndsWell from (Closed last) = IsClean (view last)

  -- Whenever a run stops from its end on, it may leave this: if no files were opened, what they held; and if they were
  -- opened as a database, one that stands in the store as it was ended, also while the log is copied into the file.
  abbrev pub Leaves : Image → Ended D g → Image → Type 0
  Leaves from Nothing image = image ≡ from
  Leaves from (Left it) image = MayLeave it image
  Leaves from (Closed last) image = (files.state last).may_leave image ⊎ HoldTrees (recovers last) image

  -- it is so, whatever a stop leaves
  abbrev pub Keeps : Image → Ended D g → (Image → Type 0) → Type 0
  Keeps from ended Is = EndsWell from ended → (left : Image) → Leaves from ended left → Is left

  -- The disk returned what was written, and the files that a run opened held the bureau's own store. Then each fault of a
  -- store that the run tells (`Told`) is one that it may tell (`May`).
  abbrev pub TellsOnly : (May Told : StoreFault → Type 0) → Image → Ended D g → Type 0
  TellsOnly May Told from ended = HadCleanDisk ended → (IsNothing ended → ⊥) → (before : Tables) → HoldsStore from before
      → (fault : StoreFault) → Told fault → May fault

  -- a store stays, with its tables
  abbrev pub KeepsTables : Image → Ended D g → Type 0
  KeepsTables from ended = (before : Tables) → HoldsStore from before → Keeps from ended (λ left. HoldTables left (λ this. this ≡ before))

  -- a store of version 1 stays, with its tables
  abbrev pub KeepsEarlier : Image → Ended D g → Type 0
  KeepsEarlier from ended = (before : Tables) → HoldsEarlier from before → Keeps from ended (λ left. ∥ HoldsEarlier left before ∥₁)

  -- A run of `init` that could not open the files, or one of `check`. A database stays as it is, tree by tree, and so a
  -- store of either version does. If there is none yet, there is none afterwards, or one that has no tables.
  pub record KeepsFound (from : Image) (ended : Ended D g) : Type 0 where
    pub stays : (trees : Trees) → HoldsDatabase from trees → Keeps from ended (HoldTrees (λ now. now ≡ trees))
    pub begins : sqlite.IsNothing from → Keeps from ended (λ left. sqlite.IsNothing left ⊎ HoldTrees HasNoTables left)
    pub store : KeepsTables from ended
    pub earlier : KeepsEarlier from ended

  -- A run of `init` over a database, wherever it ends. The database stays as it is, tree by tree; or, if it has no tables,
  -- it is a store with the callers of the callers file and nothing else. So a store of either version stays. If no database
  -- was there yet, there is none, or one that has no tables, or that store. Once the run has done what it was for, it is
  -- that store.
  pub record KeepsMade (from : Image) (source : List ℕ) (outcome : Option AnyFault) (ended : Ended D g) : Type 0 where
    pub found : Keeps from ended (HoldTrees (λ now. AreFoundIn from now ⊎ AreMadeFor source now))
    pub stays : (trees : Trees) → HoldsDatabase from trees
        → Keeps from ended (HoldTrees (λ now. (now ≡ trees) ⊎ (HasNoTables trees × AreMadeFor source now)))
    pub begins : sqlite.IsNothing from → Keeps from ended (λ left. sqlite.IsNothing left ⊎ HoldTrees (λ now. HasNoTables now ⊎ AreMadeFor source now) left)
    pub store : KeepsTables from ended
    pub earlier : KeepsEarlier from ended
    pub made : IsDone outcome → Keeps from ended (HoldCallers source)

  -- A run of `migrate`, wherever it ends. A store of version 1 stays, with its tables, or is one of version 2 with the same tables;
  -- and once the run has done what it was for, it is that. A store of version 2 stays, with its tables.
  pub record KeepsMigrated (from : Image) (outcome : Option AnyFault) (ended : Ended D g) : Type 0 where
    pub earlier : (before : Tables) → HoldsEarlier from before → Keeps from ended (λ left. ∥ HoldsEarlier left before ⊎ HoldsStore left before ∥₁)
    pub brought : IsDone outcome → (before : Tables) → HoldsEarlier from before → Keeps from ended (λ left. ∥ HoldsStore left before ∥₁)
    pub store : KeepsTables from ended
