-- The bureau's tables, version 2, as the database keeps them; those of version 1 are all but the last. A row is its rowid and then its columns, so
-- that a table's first column has index 1.
use Rattle.std.specs.Prelude.{ℕ, List, [], ◌∷◌, codes, map, take, Some, None, true, false, pos}
use Rattle.sqlite.specs.Collation.TheVariants.{Binary}
use Rattle.sqlite.specs.Kind.{Kind}
use Rattle.sqlite.specs.Kind.TheVariants.{Integer, Text, Blob}
use Rattle.sqlite.specs.Schema.{Schema}
use Rattle.sqlite.specs.Table.{Table}
use Rattle.sqlite.specs.Term.{Term, lit, col, op2}
use Rattle.sqlite.specs.declared.types.Value.TheVariants.{Null, Int}
use Rattle.sqlite_schema.specs.declared.schema.Column.{Column}
use Rattle.sqlite_schema.specs.declared.schema.Index.{Index}
use Rattle.sqlite_sql.specs.declared.ops.BinaryOp.TheVariants.{And, Compare}
use Rattle.sqlite_sql.specs.declared.ops.CompareOp.TheVariants.{Eq, Ge, Gt, Le}
use Rattle.sqlite_value.specs.Keys.{plain}

-- a column that is never NULL and takes values of its type alone
abbrev pub column_of : Kind → List ℕ → Column
column_of kind name = record {
  name = name;
  kind = kind;
  is_strict = true;
  not_null = true;
  default = Null;
  collation = Binary;
}

abbrev pub text_column : List ℕ → Column
text_column = column_of Text

abbrev pub number_column : List ℕ → Column
number_column = column_of Integer

-- a table in this tree, with a primary key of the columns at these indices, and these rules on a row
abbrev pub table_of : List ℕ → ℕ → List Column → List ℕ → List Term → Table
table_of name tree columns primary checks = record {
  name = name;
  tree = tree;
  columns = columns;
  key = None;
  primary = primary;
  uniques = primary ∷ [];
  orders = plain ∷ [];
  checks = checks;
  references = [];
  computed = [];
  stamps = record { places = []; terms = []; formats = [] };
  is_counted = false;
}

-- the number at an index is at least this and at most that
abbrev pub is_between : ℕ → ℕ → ℕ → Term
is_between index low high =
    op2 And (op2 (Compare Ge Binary) (col 1 index) (lit (Int (pos low))))
    (op2 (Compare Le Binary) (col 1 index) (lit (Int (pos high))))

-- the version of these tables, in one row
abbrev pub bureau_version : Table
bureau_version = record (table_of (codes "bureau_version") 0
    (record (number_column (codes "one")) { not_null = false } ∷ number_column (codes "version") ∷ [])
    (0 ∷ [])
    (op2 (Compare Eq Binary) (col 1 0) (lit (Int (pos 1))) ∷ [])) { key = Some 0; uniques = []; orders = [] }

-- the callers with their tokens
abbrev pub caller : Table
caller = record (table_of (codes "caller") 1
    (text_column (codes "name") ∷ text_column (codes "token") ∷ []) (1 ∷ []) [])
    { uniques = (1 ∷ []) ∷ (2 ∷ []) ∷ []; orders = plain ∷ plain ∷ [] }

-- each caller's last change, with the reply that is kept for it
abbrev pub last_change : Table
last_change = table_of (codes "last_change") 4
    (text_column (codes "caller") ∷ number_column (codes "number") ∷ column_of Blob (codes "body") ∷ [])
    (1 ∷ [])
    (op2 (Compare Gt Binary) (col 1 2) (lit (Int (pos 0))) ∷ [])

-- the records of the catalogue, without the ids that they supersede and those that they require under a condition
abbrev pub sysmod : Table
sysmod = table_of (codes "sysmod") 6
    (text_column (codes "id") ∷ number_column (codes "kind") ∷ text_column (codes "fmids")
    ∷ text_column (codes "pre") ∷ text_column (codes "req") ∷ [])
    (1 ∷ []) (is_between 2 0 3 ∷ [])

-- the ids that each record supersedes
abbrev pub sysmod_sup : Table
sysmod_sup = table_of (codes "sysmod_sup") 8
    (text_column (codes "id") ∷ text_column (codes "member") ∷ []) (1 ∷ 2 ∷ []) []

-- the holds
abbrev pub hold_row : Table
hold_row = table_of (codes "hold_row") 11
    (text_column (codes "sysmod") ∷ number_column (codes "kind") ∷ text_column (codes "reason")
    ∷ text_column (codes "fmid") ∷ text_column (codes "class") ∷ number_column (codes "dated")
    ∷ text_column (codes "resolver") ∷ text_column (codes "categories") ∷ [])
    (1 ∷ 2 ∷ 3 ∷ []) (is_between 2 0 3 ∷ [])

-- the clients' zones, with the patterns of the fix categories that are asked for
abbrev pub zone_head : Table
zone_head = table_of (codes "zone_head") 13
    (text_column (codes "client") ∷ text_column (codes "zone") ∷ text_column (codes "patterns") ∷ [])
    (1 ∷ 2 ∷ []) []

-- the SYSMODs of the zones
abbrev pub zone_row : Table
zone_row = table_of (codes "zone_row") 15
    (text_column (codes "client") ∷ text_column (codes "zone") ∷ text_column (codes "sysmod")
    ∷ number_column (codes "state") ∷ [])
    (1 ∷ 2 ∷ 3 ∷ []) (is_between 4 0 2 ∷ [])

-- the SYSMODs that each client has received
abbrev pub received_list : Table
received_list = table_of (codes "received_list") 17
    (text_column (codes "client") ∷ text_column (codes "ids") ∷ []) (1 ∷ []) []

-- the ids that each record requires if a function is installed
abbrev pub sysmod_cond : Table
sysmod_cond = table_of (codes "sysmod_cond") 19
    (text_column (codes "id") ∷ text_column (codes "fmid") ∷ text_column (codes "member") ∷ [])
    (1 ∷ 2 ∷ 3 ∷ []) []

abbrev pub index_of : List ℕ → ℕ → ℕ → List ℕ → Index
index_of name tree table columns = record {
  name = name;
  tree = tree;
  table = table;
  columns = columns;
  order = plain;
  is_unique = true;
}

abbrev pub by_member : Index
by_member = record (index_of (codes "by_member") 10 8 (2 ∷ 1 ∷ [])) { is_unique = false }

-- the names of a table's columns
abbrev pub columns_of : Table → List (List ℕ)
columns_of table = map (λ column. column.name) table.columns

abbrev pub sysmod_columns : List (List ℕ)
sysmod_columns = columns_of sysmod

abbrev pub hold_columns : List (List ℕ)
hold_columns = columns_of hold_row

-- the keys of the tables, each in a tree of its own, and the index by which superseders are found
abbrev pub indexes : List Index
indexes =
    index_of (codes "sqlite_autoindex_caller_1") 2 1 (1 ∷ [])
    ∷ index_of (codes "sqlite_autoindex_caller_2") 3 1 (2 ∷ [])
    ∷ index_of (codes "sqlite_autoindex_last_change_1") 5 4 (1 ∷ [])
    ∷ index_of (codes "sqlite_autoindex_sysmod_1") 7 6 (1 ∷ [])
    ∷ index_of (codes "sqlite_autoindex_sysmod_sup_1") 9 8 (1 ∷ 2 ∷ [])
    ∷ by_member
    ∷ index_of (codes "sqlite_autoindex_hold_row_1") 12 11 (1 ∷ 2 ∷ 3 ∷ [])
    ∷ index_of (codes "sqlite_autoindex_zone_head_1") 14 13 (1 ∷ 2 ∷ [])
    ∷ index_of (codes "sqlite_autoindex_zone_row_1") 16 15 (1 ∷ 2 ∷ 3 ∷ [])
    ∷ index_of (codes "sqlite_autoindex_received_list_1") 18 17 (1 ∷ [])
    ∷ index_of (codes "sqlite_autoindex_sysmod_cond_1") 20 19 (1 ∷ 2 ∷ 3 ∷ [])
    ∷ []

abbrev pub tables : List Table
tables =
    bureau_version ∷ caller ∷ last_change ∷ sysmod ∷ sysmod_sup ∷ hold_row ∷ zone_head ∷ zone_row
    ∷ received_list ∷ sysmod_cond ∷ []

-- the schema while the tables are made: so many of the tables and of the indexes
abbrev pub made : ℕ → ℕ → Schema
made so_many so_many_indexes =
    record { tables = take so_many tables; indexes = take so_many_indexes indexes; views = [] }

-- the schema of version 1, before there were requisites under a condition
abbrev pub bureau_1 : Schema
bureau_1 = made 9 10

-- the whole schema
abbrev pub bureau : Schema
bureau = record { tables = tables; indexes = indexes; views = [] }
