-- What a read of one row tells: whether a table has any.
use Rattle.std.proofs.Common.{◌≡◌, ◌∷◌, ◌==◌, ℕ, Bool, false, true, List, [], Some, refl, sym, ◌∙◌, ap, subst, arith}
use Rattle.std.specs.Prelude.{flat_map, length, map, not, slice_get, take}
use Rattle.std.specs.List.{AllByRecursion}
use Rattle.std.proofs.lemmas.Bool.{false≢true}
use Rattle.std.proofs.lemmas.List.Sorted.{length_permutation}
use Rattle.sqlite.proofs.Callers.{IsPlain, command_of, reads_as}
use Rattle.sqlite.specs.Order.{Row}
use Rattle.sqlite.specs.Program.{overlay}
use Rattle.sqlite.specs.Query.{IsAnswer, Output, output}
use Rattle.sqlite.specs.State.{Shown, State}
use Rattle.sqlite.specs.Table.{Table}
use Rattle.sqlite.specs.Tree.{Trees}
use Rattle.sqlite.specs.declared.types.Value.TheVariants.{Null}
use Rattle.sqlite_sql.specs.Query.{end, inner, matches}
use Rattle.sqlite_typing.specs.Types.{accepts_program}
use Rattle.sql_texts.proofs.AnswerFacts.{plain_trees}
use Rattle.sql_texts.specs.Meaning.{Reads, selection}
use Rattle.sql_texts.specs.Schema.{bureau, tables}
use Rattle.sql_rows.proofs.TableFacts.{at_index}
use Rattle.sql_writes.specs.Asking.{first_in}
use Rattle.sql_writes.proofs.FindFacts.{some_there}

-- no row passes, so there is none
none_matched : (tree : ℕ) (rows : List Row) → length (map (output (first_in tree)) (flat_map (λ row. ([] ∷ row ∷ []) ∷ []) rows)) ≡ 0 → rows ≡ []
none_matched tree [] e = refl
none_matched tree (row ∷ rows) e = absurd (omega (arith, e))

first_answer : (tree : ℕ) (db : Trees) → IsAnswer (first_in tree) db [] [] → db tree ≡ []
first_answer tree db answer =
    let ordered : answer.ordered ≡ [] = shown_none answer.ordered answer.shown in
    let as_long = length_permutation answer.kept answer.ordered answer.same in
    let kept : answer.kept ≡ map (output (first_in tree)) (matches db [] (inner tree end) ([] ∷ [])) = answer.distinct ∙ ap (map (output (first_in tree))) answer.grouped in
    let none = ap length ordered in
    let long = ap length kept in
    none_matched tree (db tree) (omega (arith, as_long, none, long))
  where
    none_in : (shown : List Row) → [] ≡ take 1 shown → shown ≡ []
    none_in [] e = refl
    none_in (row ∷ rows) e = absurd (cc)

    none_of : (ordered : List Output) → map (λ (o : Output). o.1) ordered ≡ [] → ordered ≡ []
    none_of [] e = refl
    none_of (o ∷ os) e = absurd (cc)

    shown_none : (ordered : List Output) → [] ≡ take 1 (map (λ (o : Output). o.1) ordered) → ordered ≡ []
    shown_none ordered e = none_of ordered (none_in (map (λ (o : Output). o.1) ordered) e)

pub first_read : (text : List ℕ) (tree : ℕ) (names : List (List ℕ)) (old new : State) (rows : List Row) → Reads bureau text (first_in tree) names 0 → old.now.schema ≡ bureau → Shown text [] old new rows → rows ≡ []
    → old.now.trees tree ≡ []
first_read text tree names old new rows reads ours here none =
    let shown = subst (Shown text [] old new) none here in
    let answer : IsAnswer (first_in tree) (overlay old.now.trees []) [] [] =
    (reads_as text [] old new bureau ours (selection (first_in tree) names) (ap command_of reads.statement) (subst IsPlain (sym reads.statement) (refl, refl)) reads.unlisted [] shown).answer Null in
    sym (plain_trees old.now.trees tree) ∙ first_answer tree (overlay old.now.trees []) answer

all_taken : AllByRecursion (λ (t : Table). accepts_program bureau [] (first_in t.tree) [] ≡ true) tables
all_taken = (refl, (refl, (refl, (refl, (refl, (refl, (refl, (refl, (refl, (refl, tt))))))))))

-- the database takes such a read of each of its tables
pub first_taken : (index : ℕ) (table : Table) → slice_get tables index ≡ Some table → accepts_program bureau [] (first_in table.tree) [] ≡ true
first_taken index table placed = at_index (λ (t : Table). accepts_program bureau [] (first_in t.tree) [] ≡ true) tables index table placed all_taken

-- an answer that denies that a list has elements
pub denied : {X : Type 0} (xs : List X) (empty : Bool) → empty ≡ (length xs == 0) → not empty ≡ false → xs ≡ []
denied [] empty is none = refl
denied (x ∷ xs) empty is none = absurd (false≢true (sym none ∙ ap not is ∙ sym (some_there (length (x ∷ xs)))))
