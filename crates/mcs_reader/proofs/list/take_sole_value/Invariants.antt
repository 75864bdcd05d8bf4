use Rattle.std.proofs.Common.{◌≡◌, ◌+◌, ◌<◌, ◌≤◌, ℕ, List, ◌∷◌, false, length}
use Rattle.mcs_reader.specs.Pieces.{no_name}
use Rattle.mcs_reader.specs.Position.{IsAfter}
use Rattle.mcs_reader.specs.Scan.{on_found, scan, with_values}
use Rattle.mcs_reader.proofs.AloneFacts.{is_nil}
use Rattle.mcs_reader.proofs.list.take_sole_value.Given as goal

-- the first value and those passed since stand in front of what is found after them
abbrev pub invariant-others : goal.invariant-others
invariant-others l = (others : List (List ℕ)) × record {
  found : scan l.fn.line 1 no_name false l.fn.cursor.text ≡ on_found (with_values (l.first ∷ others)) (scan l.fn.line l.depth no_name false l.cursor.text);
  alone_is : l.alone ≡ is_nil others;
  still_open : 0 < l.depth;
  no_deeper : l.depth + length l.cursor.text ≤ 1 + length l.fn.cursor.text;
  after : IsAfter l.cursor l.fn.cursor;
}

abbrev pub decreases-others : goal.decreases-others
decreases-others l = length l.cursor.text
