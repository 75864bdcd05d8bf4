-- What stays of the files of a database where no store is made in them.
use Rattle.std.proofs.Common.{◌≡◌, ◌⊎◌, ◌∙◌, ◌<◌, [], ap, arith, inl, inr, length, refl, subst, sym}
use Rattle.std.proofs.Math.Logic.{∥∥₁_map}
use Rattle.bureau_store.specs.Tables.{Tables}
use Rattle.bureau_sql.specs.Files.{HoldTrees, HoldsEarlier, HoldsStore}
use Rattle.sql_tables.specs.Earlier.{AreOfVersion1}
use Rattle.sql_tables.specs.Ours.{AreOurs}
use Rattle.sql_tables.proofs.OursFacts.{found_earlier, found_ours}
use Rattle.sql_tables.specs.InTrees.{stored_in}
use Rattle.sql_tables.specs.Stored.{tables_of}
use Rattle.sql_texts.specs.Schema.{made}
use Rattle.sqlite_catalog.specs.Listing.{IsSound}
use Rattle.sqlite_disk.specs.declared.Disk.{Ghosts}
use Rattle.sqlite_schema.specs.declared.schema.Schema.{Schema}
use Rattle.sqlite_trees.specs.Tree.{Trees}
use Rattle.sqlite_wal.specs.Recovery.{Image}
use Rattle.sqlite.specs.Effect.{Database}
use Rattle.sqlite.specs.Files.{HoldsDatabase, IsNothing}
use Rattle.store_runs.specs.Ended.{IsLeftOver}
use Rattle.store_runs.specs.Keeping.{HasNoTables, Keeps, KeepsEarlier, KeepsFound, KeepsTables}
use Rattle.store_runs.specs.declared.ended.Ended.{Ended}
use Rattle.store_runs.specs.declared.ended.Ended.TheVariants.{Nothing, Left, Closed}
use Rattle.store_runs.proofs.LeftFacts.{failed_open, new_left}

-- ---- no store is a database without tables

some_tables : (schema : Schema) → made 0 0 ≡ schema → 0 < length schema.tables → ⊥
some_tables schema is some = let none = ap (λ (s : Schema). length s.tables) is in omega (arith, none, some)

pub ours_has_tables : (trees : Trees) → AreOurs trees → HasNoTables trees → ⊥
ours_has_tables trees ours none =
    let database : Database = record { schema = made 0 0; trees = trees } in
    some_tables _ (found_ours database none ours).schema (omega arith)

pub earlier_has_tables : (trees : Trees) → AreOfVersion1 trees → HasNoTables trees → ⊥
earlier_has_tables trees ours none =
    let database : Database = record { schema = made 0 0; trees = trees } in
    some_tables _ (found_earlier database none ours).schema (omega arith)

-- ---- where the database stays

module _ {D : Type 0} {g : Ghosts D} (from : Image) (ended : Ended D g) (Made : Trees → Type 0)
    (stays : (trees : Trees) → HoldsDatabase from trees → Keeps from ended (HoldTrees (λ now. (now ≡ trees) ⊎ (HasNoTables trees × Made now)))) where
  -- a store stays
  pub store_stays : KeepsTables from ended
  store_stays before holds well left may = ∥∥₁_map (stays holds.trees holds.held well left may) (λ it.
      let same : it.0 ≡ holds.trees = elim it.2 [ inl same ↦ same | inr made ↦ absurd (ours_has_tables holds.trees holds.ours made.0) ] in
      let store : HoldsStore left before =
      record { trees = it.0; held = it.1; ours = subst AreOurs (sym same) holds.ours; tables = ap (λ trees. tables_of (stored_in trees)) same ∙ holds.tables } in
      let r : (this : Tables) × HoldsStore left this × (this ≡ before) = (before, store, refl) in r)

  pub earlier_stays : KeepsEarlier from ended
  earlier_stays before holds well left may = ∥∥₁_map (stays holds.trees holds.held well left may) (λ it.
      let same : it.0 ≡ holds.trees = elim it.2 [ inl same ↦ same | inr made ↦ absurd (earlier_has_tables holds.trees holds.ours made.0) ] in
      let r : HoldsEarlier left before = record {
        trees = it.0;
        held = it.1;
        ours = subst AreOfVersion1 (sym same) holds.ours;
        tables = ap (λ trees. tables_of (record (stored_in trees) { conds = [] })) same ∙ holds.tables;
      } in r)

-- ---- an open that failed

module _ {D : Type 0} {g : Ghosts D} (from : Image) where
  -- a database stays, tree by tree
  unopened_stays : (ended : Ended D g) → IsLeftOver from ended → (trees : Trees) → HoldsDatabase from trees → Keeps from ended (HoldTrees (λ now. now ≡ trees))
  unopened_stays Nothing of trees held well left same =
      subst (HoldTrees (λ now. now ≡ trees)) (sym same) (let r : (now : Trees) × HoldsDatabase from now × (now ≡ trees) = (trees, held, refl) in ∣ r ∣₁)
  unopened_stays (Left it) of trees held well left may =
      let r : (now : Trees) × HoldsDatabase from now × (now ≡ trees) = (trees, held, refl) in
      failed_open held.2.schema (λ now. now ≡ trees) (λ now is. subst (IsSound held.2.schema) (sym is) held.2.sound) g from it of ∣ r ∣₁ well.0 well.1 left may
  unopened_stays (Closed last) of trees held well left may = absurd of

  unopened_begins : (ended : Ended D g) → IsLeftOver from ended → IsNothing from → Keeps from ended (λ left. IsNothing left ⊎ HoldTrees HasNoTables left)
  unopened_begins Nothing of nothing well left same = inl (subst IsNothing (sym same) nothing)
  unopened_begins (Left it) of nothing well left may = new_left g from it of nothing well.0 well.1 left may
  unopened_begins (Closed last) of nothing well left may = absurd of

  either_way : (ended : Ended D g) → IsLeftOver from ended → (trees : Trees) → HoldsDatabase from trees → Keeps from ended (HoldTrees (λ now. (now ≡ trees) ⊎ (HasNoTables trees × ⊥)))
  either_way ended of trees held well left may = ∥∥₁_map (unopened_stays ended of trees held well left may) (λ it.
      let r : (now : Trees) × HoldsDatabase left now × ((now ≡ trees) ⊎ (HasNoTables trees × ⊥)) = (it.0, it.1, inl it.2) in r)

  pub kept_tables : (ended : Ended D g) → IsLeftOver from ended → KeepsTables from ended
  kept_tables ended of = store_stays from ended (λ now. ⊥) (either_way ended of)

  pub kept_earlier : (ended : Ended D g) → IsLeftOver from ended → KeepsEarlier from ended
  kept_earlier ended of = earlier_stays from ended (λ now. ⊥) (either_way ended of)

  pub kept_found : (ended : Ended D g) → IsLeftOver from ended → KeepsFound from ended
  kept_found ended of = record {
    stays = unopened_stays ended of;
    begins = unopened_begins ended of;
    store = kept_tables ended of;
    earlier = kept_earlier ended of;
  }
