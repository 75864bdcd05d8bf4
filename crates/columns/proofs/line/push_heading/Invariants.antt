use Rattle.std.proofs.Common.{◌≡◌, ◌++◌, drop, map}
use Rattle.columns.specs.Columns.{columns_of, fields_in}
use Rattle.columns.proofs.line.push_heading.Given as goal

-- the text so far with the names to come is the whole
abbrev pub invariant-loop-column : goal.invariant-loop-column
invariant-loop-column l =
    record {
      left : l.columns_left ≡ drop l.column-index l.columns;
      whole : l.text.items ++ fields_in (columns_of l.columns_left) (map (λ column. column.1) (columns_of l.columns_left)) ≡ l.fn.text.items ++ fields_in (columns_of l.columns) (map (λ column. column.1) (columns_of l.columns));
    }
