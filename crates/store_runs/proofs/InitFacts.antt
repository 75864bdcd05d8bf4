-- What an `init` that was stopped leaves, for the next run.
use Rattle.std.proofs.Common.{◌≡◌, ◌∙◌, ℕ, Err, List, Ok, Result, ap, refl, subst, sym}
use Rattle.std.proofs.Math.Logic.{∥∥₁_elim, ∥∥₁_map}
use Rattle.bureau_store.specs.Callers.{callers_of}
use Rattle.bureau_store.specs.Tables.{Tables, opened}
use Rattle.bureau_store.specs.declared.caller.CallerRow.{CallerRow}
use Rattle.bureau_store.specs.declared.fault.CallerFault.{CallerFault}
use Rattle.bureau_sql.specs.Files.{HoldTrees, HoldsStore}
use Rattle.sql_writes.specs.Making.{IsEmpty}
use Rattle.sql_texts.specs.Schema.{made}
use Rattle.sqlite_catalog.specs.Listing.{IsSound}
use Rattle.sqlite_catalog.proofs.ReadLemmas.{lists_once}
use Rattle.sqlite_trees.specs.Objects.{catalog_tree}
use Rattle.sqlite_trees.specs.Tree.{Trees}
use Rattle.sqlite_wal.specs.Recovery.{Image}
use Rattle.sqlite.specs.Effect.{Database, IsDatabase}
use Rattle.sqlite.specs.Files.{HoldsDatabase}
use Rattle.store_runs.specs.Keeping.{AreMadeFor, HasNoTables, HoldCallers}

-- the callers of one file are the same each time
same_rows : (source : List ℕ) (one other : List CallerRow) → callers_of source ≡ Ok one → callers_of source ≡ Ok other → one ≡ other
same_rows source one other is was = let same : ◌≡◌ {A = Result (List CallerRow) CallerFault} (Ok one) (Ok other) = sym is ∙ was in cc

module _ (source : List ℕ) (image : Image) (held : HoldTrees (AreMadeFor source) image) where
  no_fault : (fault : CallerFault) → callers_of source ≡ Err fault → ⊥
  no_fault fault is = ∥∥₁_elim held (λ x y. absurd x) (λ it.
      let other : ◌≡◌ {A = Result (List CallerRow) CallerFault} (Ok it.2.rows) (Err fault) = sym it.2.rows_are ∙ is in absurd cc)

  pub held_made : HoldCallers source image
  held_made = by (callers_of source) refl
    where
      by : (answer : Result (List CallerRow) CallerFault) → callers_of source ≡ answer → HoldCallers source image
      by (Err fault) is = absurd (no_fault fault is)
      by (Ok rows) is = (
        rows,
        is,
        ∥∥₁_map held (λ it.
            let made : AreMadeFor source it.0 = it.2 in
            let store : HoldsStore image (opened made.rows) = record { trees = it.0; held = it.1; ours = made.ours; tables = made.tables } in
            let r : (this : Tables) × HoldsStore image this × (this ≡ opened rows) = (opened made.rows, store, ap opened (same_rows source made.rows rows made.rows_are is)) in r),
      )

pub found_empty : (image : Image) (database : Database) (trees : Trees) → IsDatabase database → ((trees : Trees) → HoldsDatabase image trees → database.trees ≡ trees)
    → HoldsDatabase image trees → HasNoTables trees → IsEmpty database
found_empty image database trees sound finds held none =
    let empty : IsSound (made 0 0) database.trees = subst HasNoTables (sym (finds trees held)) none in
    lists_once (database.trees catalog_tree) database.schema (made 0 0) sound.lists empty.lists
