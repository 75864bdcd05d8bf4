-- The meaning of a text of SQL to a database with a schema. No text here has RETURNING, and none reads the time.
use Rattle.std.specs.Prelude.{◌≡◌, ℕ, ◌+◌, List, [], ◌∷◌, codes, length, map, nat_lt, None, Ok, false, true}
use Rattle.std.specs.Char.{is_ascii}
use Rattle.std.specs.List.{list_all, range_with_len}
use Rattle.sqlite.specs.Command.{Command}
use Rattle.sqlite.specs.Command.TheVariants.{CreateIndex, CreateTable, Select}
use Rattle.sqlite.specs.Change.{created, indexed}
use Rattle.sqlite.specs.Compile.{index_defined_by, table_defined_by}
use Rattle.sqlite.specs.Listing.{reads_listing, understood}
use Rattle.sqlite.specs.Query.{Query}
use Rattle.sqlite.specs.Schema.{Schema}
use Rattle.sqlite.specs.Table.{Table}
use Rattle.sqlite_catalog.specs.Listing.{is_fit}
use Rattle.sqlite_resolve.specs.declared.compiled.Compiled.{Compiled}
use Rattle.sqlite_schema.specs.declared.schema.Index.{Index}
use Rattle.sqlite_value.specs.declared.value.Value.TheVariants.{Text}

-- parameters are written ?1 to ?9
abbrev pub parameter : ℕ → List ℕ
parameter number = 0x3F ∷ (0x30 + number) ∷ []

-- a text that is one statement, with parameters up to this number
abbrev pub statement : Command → ℕ → List ℕ → Compiled
statement command parameters text = record {
  command = command;
  returning = None;
  names = map parameter (range_with_len 1 parameters);
  formats = [];
  start = 0;
  end = length text;
  tail = length text;
}

-- under this schema the text is this command, with so many parameters
pub record Means (schema : Schema) (text : List ℕ) (command : Command) (parameters : ℕ) : Type 0 where
  pub statement : understood schema text ≡ Ok (statement command parameters text)

-- a query, which no computed table precedes, in columns of these names
abbrev pub selection : Query → List (List ℕ) → Command
selection query names = Select (record { lets = []; body = query }) names

-- the text reads the answer of the query, in columns of these names, and not the list of the tables itself
pub record Reads (schema : Schema) (text : List ℕ) (query : Query) (names : List (List ℕ)) (parameters : ℕ)
    : Type 0 where
  pub statement : understood schema text ≡ Ok (statement (selection query names) parameters text)
  pub unlisted : reads_listing schema text ≡ false

-- A database lists the text with what it makes: a table or an index (`kind`) of this name for the table of that name.
-- The text is ASCII, it begins as such a text does, and it has less than a thousand bytes.
pub record IsListable (kind name table text : List ℕ) : Type 0 where
  pub ascii : list_all is_ascii text ≡ true
  pub fit : is_fit (Text kind) (Text name) (Text table) (Text text) ≡ true
  pub short : nat_lt (length text) 1000 ≡ true

-- The text makes this table with its keys, which takes one schema to the next. Before a table has its tree it is
-- defined with the tree 0.
pub record MakesTable (before : Schema) (text : List ℕ) (table : Table) (after : Schema) : Type 0 where
  pub statement : understood before text ≡ Ok (statement CreateTable 0 text)
  pub listable : IsListable (codes "table") table.name table.name text
  pub defined : table_defined_by text ≡ Ok (record table { tree = 0 })
  pub made : created before table ≡ after

-- the text makes this index on the table at that index of the schema, which takes one schema to the next
pub record MakesIndex (before : Schema) (text : List ℕ) (table_index : ℕ) (table : Table) (index : Index)
    (after : Schema) : Type 0 where
  pub statement : understood before text ≡ Ok (statement (CreateIndex table_index) 0 text)
  pub listable : IsListable (codes "index") index.name table.name text
  pub defined : index_defined_by table text ≡ Ok (record index { tree = 0 })
  pub made : indexed before table index ≡ after
