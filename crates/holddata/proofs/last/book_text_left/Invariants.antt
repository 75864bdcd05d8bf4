use Rattle.std.proofs.Common.{◌≡◌, List, ◌++◌, length, map}
use Rattle.std.specs.Prelude.{None}
use Rattle.columns.specs.Table.{table_with}
use Rattle.holddata.specs.declared.hold.Hold.{Hold}
use Rattle.holddata.specs.BookText.{hold_columns, hold_fields}
use Rattle.holddata.specs.Last.{holds_last}
use Rattle.holddata.proofs.last.book_text_left.Given as goal

-- the table has the rows of the holds so far, and with those to come they are all that are put last
abbrev pub invariant-changes : goal.invariant-changes
invariant-changes l = (done : List Hold) × record {
  made : l.table ≡ table_with hold_columns None (map hold_fields done);
  all : done ++ holds_last l.left ≡ holds_last l.initial.left;
}

abbrev pub decreases-changes : goal.decreases-changes
decreases-changes l = length l.left
