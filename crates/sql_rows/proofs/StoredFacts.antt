-- What the trees hold as rows of the tables, after one table got other rows.
use Rattle.std.proofs.Common.{◌≡◌, ◌≢◌, ℕ, Bool, true, false, List, [], ◌∷◌, ◌==◌, refl, sym, ◌∙◌, ap, subst}
use Rattle.std.specs.Prelude.{◌++◌, cond, drop, filter, not}
use Rattle.std.specs.List.{AllByRecursion}
use Rattle.std.proofs.lemmas.Bool.{eqb-true, eqb-false}
use Rattle.std.proofs.lemmas.List.{append-nil, map-append}
use Rattle.sqlite.specs.Effect.{Database}
use Rattle.sqlite.specs.Order.{Row}
use Rattle.sqlite.specs.Table.{Table}
use Rattle.sqlite.specs.Tree.{Trees}
use Rattle.sql_texts.specs.Schema.{tables}
use Rattle.sql_tables.specs.InTrees.{columns_of, stored_in}
use Rattle.sql_tables.proofs.TreeFacts.{filter_after}
use Rattle.sql_tables.specs.Changes.{replaced}
use Rattle.sql_tables.specs.Numbered.{AreNumbered, IsNumbered}
use Rattle.sql_tables.specs.Ours.{held_by}
use Rattle.sql_tables.specs.Writing.{IsKnown}
use Rattle.sqlite_trees.proofs.ListLemmas.{all_weaker}
use Rattle.sql_rows.proofs.RowidFacts.{kept_alike}
use Rattle.sql_rows.proofs.StatementFacts.{IsSet}

numbered_after : (tree : ℕ) (old new : Trees) (all : List Table) → IsNumbered (new tree) → AllByRecursion (λ table. IsNumbered (old table.tree)) all
    → AllByRecursion (λ table. table.tree ≢ tree → new table.tree ≡ old table.tree) all → AllByRecursion (λ table. IsNumbered (new table.tree)) all
numbered_after tree old new [] here before others = tt
numbered_after tree old new (table ∷ all) here before others = (by (table.tree == tree) refl, numbered_after tree old new all here before.1 others.1)
  where
    by : (b : Bool) → (table.tree == tree) ≡ b → IsNumbered (new table.tree)
    by true same = subst (λ t. IsNumbered (new t)) (sym (eqb-true table.tree tree same)) here
    by false apart = subst IsNumbered (sym (others.0 (eqb-false table.tree tree apart))) before.0

pub known_after : (tree : ℕ) (rows : List Row) (old new : Database) → AreNumbered old.trees → IsSet tree rows old new → IsKnown new
known_after tree rows old new before set = record {
  schema = set.schema;
  sound = set.sound;
  numbered = numbered_after tree old.trees new.trees tables (subst IsNumbered (sym set.rows_are) set.numbered) before set.others;
}

-- ---- what is held

-- trees that are alike where the tables have theirs hold the same
pub held_alike : (one other : Trees) → AllByRecursion (λ table. one table.tree ≡ other table.tree) tables → stored_in one ≡ stored_in other
held_alike one other same = λ i. record {
  callers = columns_of (same.1.0 i);
  changes = columns_of (same.1.1.0 i);
  sysmods = columns_of (same.1.1.1.0 i);
  sups = columns_of (same.1.1.1.1.0 i);
  conds = columns_of (same.1.1.1.1.1.1.1.1.1.0 i);
  holds = columns_of (same.1.1.1.1.1.0 i);
  heads = columns_of (same.1.1.1.1.1.1.0 i);
  rows = columns_of (same.1.1.1.1.1.1.1.0 i);
  received = columns_of (same.1.1.1.1.1.1.1.1.0 i);
}

-- one table has these rows, and the others what they had
pub held_set : (tree : ℕ) (rows : List Row) (old new : Database) → IsSet tree rows old new → held_by new ≡ stored_in (λ t. cond (t == tree) rows (old.trees t))
held_set tree rows old new set =
    held_alike new.trees (λ t. cond (t == tree) rows (old.trees t))
    (all_weaker _ (λ (table : Table). new.trees table.tree ≡ cond (table.tree == tree) rows (old.trees table.tree)) (λ table other. at table.tree other) tables set.others)
  where
    at : (t : ℕ) → (t ≢ tree → new.trees t ≡ old.trees t) → new.trees t ≡ cond (t == tree) rows (old.trees t)
    at t other = by (t == tree) refl
      where
        by : (b : Bool) → (t == tree) ≡ b → new.trees t ≡ cond b rows (old.trees t)
        by true same = ap new.trees (eqb-true t tree same) ∙ set.rows_are
        by false apart = other (eqb-false t tree apart)

-- ---- rows that go and rows that come

pub gone : (test passing : Row → Bool) → ((row : Row) → passing row ≡ test (drop 1 row)) → (rows : List Row)
    → columns_of (filter (λ row. not (passing row)) rows) ≡ replaced test [] (columns_of rows)
gone test passing alike rows =
    filter_after (λ row. not (passing row)) (λ row. not (test row)) (λ row. ap not (alike row)) rows ∙ sym (append-nil (filter (λ row. not (test row)) (columns_of rows)))

-- the same of rows that are known to be alike
pub gone_known : (test passing : Row → Bool) (rows : List Row) → AllByRecursion (λ row. passing row ≡ test (drop 1 row)) rows
    → columns_of (filter (λ row. not (passing row)) rows) ≡ replaced test [] (columns_of rows)
gone_known test passing rows alike =
    ap columns_of (kept_alike (λ row. not (passing row)) (λ row. not (test (drop 1 row))) rows (all_weaker _ (λ row. not (passing row) ≡ not (test (drop 1 row))) (λ row same. ap not same) rows alike))
    ∙ gone test (λ row. test (drop 1 row)) (λ row. refl) rows

pub come : (rows : List Row) (row : Row) → columns_of (rows ++ row ∷ []) ≡ columns_of rows ++ drop 1 row ∷ []
come rows row = map-append (drop 1) rows (row ∷ [])

-- rows that go, and then rows that come
pub replaced_then : (test : Row → Bool) (news rows : List Row) → replaced test [] rows ++ news ≡ replaced test news rows
replaced_then test news rows = ap (λ left. left ++ news) (append-nil (filter (λ row. not (test row)) rows))
