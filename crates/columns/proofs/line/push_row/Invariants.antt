use Rattle.std.proofs.Common.{◌≡◌, ◌++◌, drop, take, length}
use Rattle.columns.specs.Columns.{columns_of, texts_of, fields_in}
use Rattle.columns.proofs.line.push_row.Given as goal

-- the text so far with the fields to come is the whole, and what stood there before is its front
abbrev pub invariant-loop-field : goal.invariant-loop-field
invariant-loop-field l =
    record {
      whole : l.text.items ++ fields_in (columns_of l.columns_left) (texts_of (drop l.field-index l.fields)) ≡ l.fn.text.items ++ fields_in (columns_of l.columns) (texts_of l.fields);
      kept : take (length l.fn.text.items) l.text.items ≡ l.fn.text.items;
    }
