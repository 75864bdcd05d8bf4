-- Rows that go and rows that come, as a filter sees them.
use Rattle.std.proofs.Common.{◌≡◌, Bool, true, false, cond, ◌||◌, List, [], ◌∷◌, ◌++◌, refl, sym, ◌∙◌, ap}
use Rattle.std.specs.Prelude.{not, filter, map, Option, Some, is_some}
use Rattle.std.specs.List.{AllByRecursion, filter_map, cons_option, list_any}
use Rattle.std.proofs.lemmas.List.Elements.{filter-append}
use Rattle.std.proofs.lemmas.List.{append-nil}
use Rattle.sqlite_value.specs.Order.{Row}
use Rattle.sql_tables.specs.Changes.{replaced}
use Rattle.sql_tables.specs.Stored.{first}

-- of what a test doesn't pass, it passes nothing
filter_not : (test : Row → Bool) (rows : List Row) → filter test (filter (λ row. not (test row)) rows) ≡ []
filter_not test [] = refl
filter_not test (row ∷ rows) = by (test row) refl (filter_not test rows)
  where
    by : (b : Bool) → test row ≡ b → filter test (filter (λ r. not (test r)) rows) ≡ []
        → filter test (cond (not b) (row ∷ filter (λ r. not (test r)) rows) (filter (λ r. not (test r)) rows)) ≡ []
    by true at rest = rest
    by false at rest = ap (λ c. cond c (row ∷ filter test (filter (λ r. not (test r)) rows)) (filter test (filter (λ r. not (test r)) rows))) at ∙ rest

-- what passes a test stays where the rows that go don't pass it
filter_apart : (test gone : Row → Bool) → ((row : Row) → test row ≡ true → gone row ≡ false) → (rows : List Row)
    → filter test (filter (λ row. not (gone row)) rows) ≡ filter test rows
filter_apart test gone apart [] = refl
filter_apart test gone apart (row ∷ rows) = by (gone row) (test row) refl refl (filter_apart test gone apart rows)
  where
    left : List Row
    left = filter (λ r. not (gone r)) rows

    by : (g t : Bool) → gone row ≡ g → test row ≡ t → filter test left ≡ filter test rows
        → filter test (cond (not g) (row ∷ left) left) ≡ cond t (row ∷ filter test rows) (filter test rows)
    by true true is at rest = let e : true ≡ false = sym is ∙ apart row at in cc
    by true false is at rest = rest
    by false t is at rest = ap (λ c. cond c (row ∷ filter test left) (filter test left)) at ∙ ap (λ rs. cond t (row ∷ rs) rs) rest

-- those that come in place of those that go
pub filter_same : (test : Row → Bool) (news rows : List Row) → filter test (replaced test news rows) ≡ filter test news
filter_same test news rows = filter-append test (filter (λ row. not (test row)) rows) news ∙ ap (λ rs. rs ++ filter test news) (filter_not test rows)

-- the others
pub filter_other : (test gone : Row → Bool) (news rows : List Row) → ((row : Row) → test row ≡ true → gone row ≡ false) → filter test news ≡ []
    → filter test (replaced gone news rows) ≡ filter test rows
filter_other test gone news rows apart none =
    filter-append test (filter (λ row. not (gone row)) rows) news
    ∙ ap (λ rs. filter test (filter (λ row. not (gone row)) rows) ++ rs) none
    ∙ append-nil (filter test (filter (λ row. not (gone row)) rows))
    ∙ filter_apart test gone apart rows

-- rows that are made all pass, or none does
pub filter_all : {X : Type 0} (test : Row → Bool) (make : X → Row) → ((x : X) → test (make x) ≡ true) → (xs : List X) → filter test (map make xs) ≡ map make xs
filter_all test make passes [] = refl
filter_all test make passes (x ∷ xs) =
    ap (λ b. cond b (make x ∷ filter test (map make xs)) (filter test (map make xs))) (passes x) ∙ ap (λ rs. make x ∷ rs) (filter_all test make passes xs)

pub filter_none : {X : Type 0} (test : Row → Bool) (make : X → Row) → ((x : X) → test (make x) ≡ false) → (xs : List X) → filter test (map make xs) ≡ []
filter_none test make fails [] = refl
filter_none test make fails (x ∷ xs) =
    ap (λ b. cond b (make x ∷ filter test (map make xs)) (filter test (map make xs))) (fails x) ∙ filter_none test make fails xs

-- one row passes just if there is a first that does
pub any_first : (test : Row → Bool) (rows : List Row) → list_any test rows ≡ is_some (first (filter test rows))
any_first test [] = refl
any_first test (row ∷ rows) = by (test row) (any_first test rows)
  where
    by : (b : Bool) → list_any test rows ≡ is_some (first (filter test rows)) → (b || list_any test rows) ≡ is_some (first (cond b (row ∷ filter test rows) (filter test rows)))
    by true rest = refl
    by false rest = rest

-- rows that are made of things are read as these
pub read_again : {X : Type 0} (P : X → Type 0) (make : X → Row) (read : Row → Option X) → ((x : X) → P x → read (make x) ≡ Some x) → (xs : List X) → AllByRecursion P xs
    → filter_map read (map make xs) ≡ xs
read_again P make read again [] all = refl
read_again P make read again (x ∷ xs) all =
    ap (λ o. cons_option o (filter_map read (map make xs))) (again x all.0) ∙ ap (λ rest. x ∷ rest) (read_again P make read again xs all.1)
