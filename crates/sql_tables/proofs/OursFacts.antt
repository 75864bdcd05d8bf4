-- The trees of a database say which tables it has.
use Rattle.std.proofs.Common.{◌≡◌, subst, sym}
use Rattle.sqlite.specs.Effect.{Database, IsDatabase}
use Rattle.sqlite_catalog.specs.Listing.{IsSound}
use Rattle.sqlite_catalog.proofs.ReadLemmas.{lists_once}
use Rattle.sqlite_schema.specs.declared.schema.Schema.{Schema}
use Rattle.sqlite_trees.specs.Objects.{catalog_tree}
use Rattle.sqlite_trees.specs.Tree.{Trees}
use Rattle.sql_tables.specs.Earlier.{AreOfVersion1, IsOfVersion1}
use Rattle.sql_tables.specs.Ours.{AreOurs, IsOurs}
use Rattle.sql_tables.specs.Writing.{IsKnown}

-- trees obey one schema, since they list one
sound_once : (trees : Trees) (one other : Schema) → IsSound one trees → IsSound other trees → one ≡ other
sound_once trees one other first second = lists_once (trees catalog_tree) one other first.lists second.lists

pub known : (database : Database) → IsOurs database → IsKnown database
known database ours = record {
  schema = ours.schema;
  sound = subst (λ schema. IsSound schema database.trees) (sym ours.schema) ours.rows.sound;
  numbered = ours.rows.numbered;
}

pub found_ours : (database : Database) → IsDatabase database → AreOurs database.trees → IsOurs database
found_ours database obeys ours = record { schema = sound_once database.trees _ _ obeys ours.sound; rows = ours }

pub found_earlier : (database : Database) → IsDatabase database → AreOfVersion1 database.trees → IsOfVersion1 database
found_earlier database obeys earlier = record { schema = sound_once database.trees _ _ obeys earlier.sound; rows = earlier }
