-- The bureau's tables and indexes, listed in any order. The place in that order is the number of the tree in which one lies.
use Rattle.std.specs.Prelude.{◌≡◌, ◌⊎◌, ◌==◌, ℕ, List, [], ◌∷◌, find, length, Option, Some, option_map}
use Rattle.std.specs.List.{AllByRecursion}
use Rattle.sqlite.specs.Schema.{Schema}
use Rattle.sqlite.specs.Table.{Table}
use Rattle.sqlite_schema.specs.declared.schema.Index.{Index}
use Rattle.sql_texts.specs.Schema as made

-- one of these tables is that one, in whatever tree
abbrev pub HasTable : List Table → Table → Type 0
HasTable [] wanted = ⊥
HasTable (table ∷ tables) wanted = (table ≡ record wanted { tree = table.tree }) ⊎ HasTable tables wanted

-- the name of the table in a tree
abbrev pub name_at : List Table → ℕ → Option (List ℕ)
name_at tables tree = option_map (λ table. table.name) (find (λ table. table.tree == tree) tables)

-- two trees of two lists have tables of one name
abbrev pub HaveOneName : List Table → ℕ → List Table → ℕ → Type 0
HaveOneName tables tree others other =
    (name : List ℕ) × (name_at tables tree ≡ Some name) × (name_at others other ≡ Some name)

-- an index is that one of the bureau's, in whatever tree, and of the table with the same name
abbrev pub IsIndex : List Table → Index → Index → Type 0
IsIndex tables wanted index =
    (index ≡ record wanted { tree = index.tree; table = index.table }) × HaveOneName tables index.table made.tables wanted.table

-- one of these indexes is
abbrev pub HasIndex : List Table → List Index → Index → Type 0
HasIndex tables [] wanted = ⊥
HasIndex tables (index ∷ indexes) wanted = IsIndex tables wanted index ⊎ HasIndex tables indexes wanted

-- A schema lists the bureau's tables and indexes, each made as the bureau makes it, and nothing else.
pub record ListsAll (schema : Schema) : Type 0 where
  pub tables : AllByRecursion (HasTable schema.tables) made.tables
  pub indexes : AllByRecursion (HasIndex schema.tables schema.indexes) made.indexes
  pub no_others : (length schema.tables ≡ length made.tables) × (length schema.indexes ≡ length made.indexes) × (schema.views ≡ [])
