use Rattle.std.proofs.Common.{◌≡◌, ◌++◌, map}
use Rattle.std.specs.Prelude.{None}
use Rattle.std.specs.Map.Iter.{deref}
use Rattle.columns.specs.Table.{table_with}
use Rattle.holddata.specs.declared.hold.Hold.{Hold}
use Rattle.holddata.specs.BookText.{hold_columns, hold_fields}
use Rattle.holddata.proofs.book.HoldBook.text.Given as goal

-- the table has the rows of the holds so far, and with those to come they are all
abbrev pub invariant-loop-hold : goal.invariant-loop-hold
invariant-loop-hold l =
    record {
      made : l.table ≡ table_with hold_columns None (map hold_fields (map (deref {X = Hold}) l.yielded));
      left : map (deref {X = Hold}) l.yielded ++ l.hold-iterator ≡ l.self;
    }
