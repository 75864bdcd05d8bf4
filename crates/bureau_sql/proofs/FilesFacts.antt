-- What an opening finds in files that hold a database of the bureau's own.
use Rattle.std.proofs.Common.{◌≡◌, ◌∙◌, [], ap, subst, sym}
use Rattle.bureau_store.specs.Tables.{Tables}
use Rattle.sqlite.specs.Effect.{Database, IsDatabase}
use Rattle.sqlite.specs.Files.{HoldsDatabase}
use Rattle.sqlite_trees.specs.Tree.{Trees}
use Rattle.sqlite_wal.specs.Recovery.{Image}
use Rattle.sql_tables.specs.Earlier.{AreOfVersion1, IsOfVersion1, held_by_version_1}
use Rattle.sql_tables.specs.Ours.{AreOurs, IsOurs, held_by}
use Rattle.sql_tables.proofs.OursFacts.{found_earlier, found_ours}
use Rattle.sql_tables.specs.InTrees.{stored_in}
use Rattle.sql_tables.specs.Stored.{tables_of}
use Rattle.bureau_sql.specs.Files.{HoldsEarlier, HoldsStore}

module _ (image : Image) (database : Database) (this : Tables) (sound : IsDatabase database)
    (finds : (trees : Trees) → HoldsDatabase image trees → database.trees ≡ trees) where
  pub store_found : HoldsStore image this → IsOurs database × (tables_of (held_by database) ≡ this)
  store_found holds =
      let same = finds holds.trees holds.held in (
        found_ours database sound (subst AreOurs (sym same) holds.ours),
        ap (λ trees. tables_of (stored_in trees)) same ∙ holds.tables,
      )

  pub earlier_found : HoldsEarlier image this → IsOfVersion1 database × (tables_of (held_by_version_1 database) ≡ this)
  earlier_found holds =
      let same = finds holds.trees holds.held in (
        found_earlier database sound (subst AreOfVersion1 (sym same) holds.ours),
        ap (λ trees. tables_of (record (stored_in trees) { conds = [] })) same ∙ holds.tables,
      )
