-- A table of the schema: its rows among those of the store are those of its tree.
use Rattle.std.specs.Prelude.{◌≡◌, ◌==◌, ℕ, Bool, List, Option, Some, cond, false, slice_get}
use Rattle.std.proofs.Common.{ap}
use Rattle.sqlite.specs.Table.{Table}
use Rattle.sqlite.specs.Tree.{Trees}
use Rattle.sqlite_value.specs.Order.{Row}
use Rattle.sql_texts.specs.Schema.{tables}
use Rattle.sql_tables.specs.InTrees.{columns_of, stored_in}
use Rattle.sql_tables.specs.Stored.{Stored}

-- The table at an index of the schema. It has a tree of its own, counts no rowids, and has one list of the rows of the
-- store: `rows` are those, and `with_rows` puts others in their place.
pub record Stands (index : ℕ) (table : Table) (rows : Stored → List Row) (with_rows : List Row → Stored → Stored)
    : Type 0 where
  pub placed : slice_get tables index ≡ Some table
  pub uncounted : table.is_counted ≡ false
  pub apart : (0 == table.tree) ≡ false
  pub here : (trees : Trees) → rows (stored_in trees) ≡ columns_of (trees table.tree)
  pub set : (trees : Trees) (news : List Row)
      → stored_in (λ t. cond (t == table.tree) news (trees t)) ≡ with_rows (columns_of news) (stored_in trees)
  pub got : (news : List Row) (stored : Stored) → rows (with_rows news stored) ≡ news
  pub again : (news others : List Row) (stored : Stored) → with_rows news (with_rows others stored) ≡ with_rows news stored
  pub kept : (stored : Stored) → with_rows (rows stored) stored ≡ stored

-- ---- that it holds is one equation, which computes

-- the parts that are looked at
pub record Sight : Type 0 where
  pub placed : Option Table
  pub is_counted : Bool
  pub is_first : Bool
  pub here : Trees → List Row
  pub set : Trees → List Row → Stored
  pub got : List Row → Stored → List Row
  pub again : List Row → List Row → Stored → Stored
  pub kept : Stored → Stored

module _ (index : ℕ) (table : Table) (rows : Stored → List Row) (with_rows : List Row → Stored → Stored) where
  abbrev pub seen : Sight
  seen = record {
    placed = slice_get tables index;
    is_counted = table.is_counted;
    is_first = 0 == table.tree;
    here = λ trees. rows (stored_in trees);
    set = λ trees news. stored_in (λ t. cond (t == table.tree) news (trees t));
    got = λ news stored. rows (with_rows news stored);
    again = λ news others stored. with_rows news (with_rows others stored);
    kept = λ stored. with_rows (rows stored) stored;
  }

  abbrev pub wanted : Sight
  wanted = record {
    placed = Some table;
    is_counted = false;
    is_first = false;
    here = λ trees. columns_of (trees table.tree);
    set = λ trees news. with_rows (columns_of news) (stored_in trees);
    got = λ news stored. news;
    again = λ news others stored. with_rows news stored;
    kept = λ stored. stored;
  }

  pub stands_by : seen ≡ wanted → Stands index table rows with_rows
  stands_by same = record {
    placed = ap (λ (s : Sight). s.placed) same;
    uncounted = ap (λ (s : Sight). s.is_counted) same;
    apart = ap (λ (s : Sight). s.is_first) same;
    here = λ trees. ap (λ (s : Sight). s.here trees) same;
    set = λ trees news. ap (λ (s : Sight). s.set trees news) same;
    got = λ news stored. ap (λ (s : Sight). s.got news stored) same;
    again = λ news others stored. ap (λ (s : Sight). s.again news others stored) same;
    kept = λ stored. ap (λ (s : Sight). s.kept stored) same;
  }
