-- No part of what is promised: private contracts cite it. The tables and the indexes that a check looks for.
use Rattle.std.specs.Prelude.{List, [], ◌∷◌, map, Option, None, Some, false, pos}
use Rattle.sqlite.specs.Collation.TheVariants.{Binary}
use Rattle.sqlite.specs.Term.{Term, lit, col, op2}
use Rattle.sqlite.specs.declared.types.Value.TheVariants.{Int}
use Rattle.sqlite_schema.specs.declared.schema.Index as index
use Rattle.sqlite_schema.specs.declared.schema.Table.{Table}
use Rattle.sqlite_sql.specs.declared.ops.BinaryOp.TheVariants.{And, Compare}
use Rattle.sqlite_sql.specs.declared.ops.CompareOp.TheVariants.{Ge, Le}
use Rattle.sqlite_value.specs.Keys.{plain}
use Rattle.sql_texts.specs.Schema.{column_of, index_of}
use Rattle.sql_checks.specs.declared.shapes.IndexShape.{IndexShape}
use Rattle.sql_checks.specs.declared.shapes.Rule.{Rule}
use Rattle.sql_checks.specs.declared.shapes.Rule.TheVariants.{Compared, UpTo}
use Rattle.sql_checks.specs.declared.shapes.TableShape.{TableShape}

-- the rule, over a row in slot 1
abbrev pub term_of_rule : Rule → Term
term_of_rule (Compared op place number) = op2 (Compare op Binary) (col 1 place) (lit (Int number))
term_of_rule (UpTo place high) =
    op2 And (op2 (Compare Ge Binary) (col 1 place) (lit (Int (pos 0))))
    (op2 (Compare Le Binary) (col 1 place) (lit (Int high)))

abbrev pub terms_of_rule : Option Rule → List Term
terms_of_rule None = []
terms_of_rule (Some rule) = term_of_rule rule ∷ []

abbrev pub table_of_shape : TableShape → Table
table_of_shape shape = record {
  name = shape.name.now;
  tree = shape.tree;
  columns = map (λ column. record (column_of column.1 column.0.now) { not_null = column.2 }) shape.columns.now;
  key = shape.key;
  primary = shape.primary.now;
  uniques = map (λ key. key.now) shape.uniques.now;
  orders = map (λ key. plain) shape.uniques.now;
  checks = terms_of_rule shape.rule;
  references = [];
  computed = [];
  stamps = record { places = []; terms = []; formats = [] };
  is_counted = false;
}

abbrev pub index_of_shape : IndexShape → index.Index
index_of_shape shape =
    record (index_of shape.name.now shape.tree shape.table shape.columns.now) { is_unique = shape.is_unique }
