-- What a statement that inserts several rows makes of its table, whichever it is, and why it is refused.
use Rattle.std.proofs.Common.{◌≡◌, ◌+◌, ◌*◌, ◌++◌, ◌&&◌, ◌<◌, ℕ, Bool, false, true, List, [], ◌∷◌, Result, get_or, length, map, refl, sym, ◌∙◌, ap, ap₂, subst, take, append_assoc}
use Rattle.std.specs.Prelude.{drop, flat_map}
use Rattle.std.specs.List.{AllByRecursion, list_all, list_any}
use Rattle.std.proofs.lemmas.List.{append-nil, length-map, map-append}
use Rattle.sqlite.specs.Cast.{cast_row}
use Rattle.sqlite.specs.Order.{Row}
use Rattle.sqlite.specs.State.{HasCleanDisk, State}
use Rattle.sqlite.specs.Table.{Table}
use Rattle.sqlite.specs.Tree.{Trees, put_row}
use Rattle.sqlite.specs.Values.{bound}
use Rattle.sqlite.specs.declared.error.Error.{Error}
use Rattle.sqlite.specs.declared.types.Value.TheVariants.{Null}
use Rattle.sqlite_rules.specs.Keys.{are_unique}
use Rattle.sqlite_rules.proofs.ListLemmas.{has_got}
use Rattle.sqlite_schema.specs.Rules.{is_key_of, references_fit}
use Rattle.sqlite_trees.specs.Tree.{with_tree}
use Rattle.sqlite_value.specs.declared.value.ValueRef.{ValueRef}
use Rattle.sql_texts.specs.Schema.{bureau, tables}
use Rattle.sql_tables.specs.Changes.{coming, going, replaced}
use Rattle.sql_tables.specs.InTrees.{columns_of}
use Rattle.sql_tables.specs.Stored.{Stored, of_table}
use Rattle.sql_tables.specs.Numbered.{IsNumbered}
use Rattle.sql_tables.specs.Ours.{held_by}
use Rattle.sql_tables.specs.Writing.{Changes}
use Rattle.sql_rows.specs.Fitting.{IsFitting}
use Rattle.sql_rows.specs.Running.{FailsInside, Ran}
use Rattle.sql_rows.specs.Standing.{Stands}
use Rattle.sql_rows.proofs.ChangeFacts.{changed_by}
use Rattle.sql_rows.proofs.TableFacts.{at_index, more_come, none_come, numbered_so, set_so}
use Rattle.sql_writes.specs.Excused.{Takes}
use Rattle.sql_writes.specs.Many.{AreGiven, AreNew, AreNewInPlace, IsGiven, MeansBy, insert_alike, parameters_to, rows_alike, unnumbered, with_next}
use Rattle.sql_writes.proofs.AlikeFacts.{Comes}
use Rattle.sql_writes.proofs.BoundFacts.{one_more}
use Rattle.sql_writes.proofs.ManyFacts.{AreFree, all_take, columns_more, grown_columns, inserts_all, numbered_more}
use Rattle.sql_writes.proofs.StepFacts.{low_so}
use Rattle.sql_writes.proofs.TakeFacts.{takes_as}

-- ---- what is bound for things, one after the other

pub flat_more : {X : Type 0} (values_of : X → Row) (xs : List X) (x : X) → flat_map values_of xs ++ values_of x ≡ flat_map values_of (xs ++ x ∷ [])
flat_more values_of [] x = sym (append-nil (values_of x))
flat_more values_of (y ∷ ys) x = append_assoc (values_of y) (flat_map values_of ys) (values_of x) ∙ ap (λ rest. values_of y ++ rest) (flat_more values_of ys x)

pub bound_one_more : {X : Type 0} (values_of : X → Row) (key : Row) (all : List X) (i : ℕ) (x : X) → i < length all → x ≡ get_or all i x
    → (key ++ flat_map values_of (take i all)) ++ values_of x ≡ key ++ flat_map values_of (take (i + 1) all)
bound_one_more values_of key all i x low at =
    append_assoc key (flat_map values_of (take i all)) (values_of x)
    ∙ ap (λ rest. key ++ rest) (flat_more values_of (take i all) x ∙ ap (flat_map values_of) (one_more all i x low at))

-- ---- no table refers to another

none_referred : AllByRecursion (λ (t : Table). t.references ≡ []) tables
none_referred = (refl, (refl, (refl, (refl, (refl, (refl, (refl, (refl, (refl, (refl, tt))))))))))

fits_alone : (t : Table) → t.references ≡ [] → (adds : Bool) → references_fit bureau t adds false ≡ true
fits_alone t none true = ap (λ all. list_all (is_key_of bureau) all && true) none
fits_alone t none false = refl

module _ (index : ℕ) (table : Table) (rows : Stored → List Row) (with_rows : List Row → Stored → Stored) (stands : Stands index table rows with_rows)
    {X : Type 0} (row_of : X → Row) where
  -- things come after those that are there
  pub come_so : Comes row_of rows (λ things. coming (of_table rows with_rows) (map row_of things))
  come_so = record {
    none = none_come index table rows with_rows stands;
    more = λ ones others stored. more_come index table rows with_rows stands (map row_of ones) (map row_of others) stored ∙ ap (λ all. coming (of_table rows with_rows) all stored) (sym (map-append row_of ones others));
    rows = λ ones stored. stands.got (rows stored ++ map row_of ones) stored;
  }

  -- things that are new where the rows of a key went are so after those went
  pub new_gone : (is_same : X → Row → Bool) (has : Row → Bool) (things : List X) → AreNewInPlace is_same row_of things has rows → (stored : Stored) → AreNew is_same row_of things (rows (going (of_table rows with_rows) has stored))
  new_gone is_same has things new stored = subst (AreNew is_same row_of things) (sym (stands.got (replaced has [] (rows stored)) stored)) (new stored)

  module _ (shared own : ℕ) (key : Row) (values_of : X → Row) (things : List X) (values : List ValueRef) (at : bound values ≡ key ++ flat_map values_of things)
      (given : AreGiven table shared own key values_of row_of things)
      (old new : State) (text : List ℕ) (result : Result (Unit {0}) Error)
      (means : HasCleanDisk old → MeansBy bureau text (insert_alike index shared own (length things)) (parameters_to (shared + own * length things)))
      (ran : Ran text (bound values) old new result) where
    abbrev params : Row
    params = key ++ flat_map values_of things

    are_given : IsGiven table (rows_alike shared own (length things)) (1 + (shared + own)) (parameters_to (shared + own * length things)) params (map row_of things)
    are_given = record { counted = ap (λ all. all.0) given; accepted = ap (λ all. all.1.0) given; source = ap (λ all. all.1.1) given }

    -- the statement that inserts them
    pub rows_come : ((x : X) → cast_row table (Null ∷ row_of x) ≡ Null ∷ row_of x) → Changes old new result (coming (of_table rows with_rows) (map row_of things))
    rows_come cast =
        let all = map row_of things in
        let here = old.now.trees table.tree in
        changed_by old new text params result (coming (of_table rows with_rows) all) (subst (λ row. Ran text row old new result) at ran) (λ clean count known executes.
        let ordered = numbered_so index table rows with_rows stands old.now known in
        let set = inserts_all text old new index table stands.placed stands.uncounted (rows_alike shared own (length things)) (1 + (shared + own)) (parameters_to (shared + own * length things)) params all are_given.source
        (cast_each things) count (means clean) known.schema ordered executes in
        let after = set_so index table rows with_rows stands _ old.now new.now known set in (
          after.0,
          after.1 ∙ ap (λ every. with_rows every (held_by old.now)) (grown_columns all here ordered ∙ ap (λ some. some ++ all) (sym (stands.here old.now.trees))),
          after.2,
        ))
      where
        cast_each : (xs : List X) → map (λ source. cast_row table (drop 0 source)) (unnumbered (map row_of xs)) ≡ unnumbered (map row_of xs)
        cast_each [] = refl
        cast_each (x ∷ xs) = ap₂ ◌∷◌ (cast x) (cast_each xs)

    -- why it is refused: not for the rules of its table, where their keys are new
    module _ (IsFit : X → Type 0) (is_same : X → Row → Bool)
        (unique : (db : Trees) (others : List Row) (x : X) → IsFit x → list_any (is_same x) (columns_of others) ≡ false
        → are_unique bureau.indexes (with_tree db table.tree (put_row (with_next others (row_of x)) others)) table (with_next others (row_of x) ∷ []) ≡ true) where
      free_so : (db : Trees) (news : List X) → AllByRecursion IsFit news → (others : List Row) → IsNumbered others
          → AreNew is_same row_of news (columns_of others) → AreFree table (has_got tables index table stands.placed) db others (map row_of news)
      free_so db [] fit others ordered none = tt
      free_so db (x ∷ news) fit others ordered none = (
        unique db others x fit.0 none.0,
        free_so db news fit.1 (put_row (with_next others (row_of x)) others) (numbered_more others (row_of x) ordered)
            (subst (AreNew is_same row_of news) (sym (columns_more others (row_of x) ordered)) none.1),
      )

      fitting : ((x : X) → IsFit x → IsFitting table (row_of x)) → (xs : List X) → AllByRecursion IsFit xs → AllByRecursion (IsFitting table) (map row_of xs)
      fitting fits [] are = tt
      fitting fits (x ∷ xs) are = (fits x are.0, fitting fits xs are.1)

      pub rows_take : ((x : X) → IsFit x → IsFitting table (row_of x)) → AllByRecursion IsFit things
          → FailsInside text (bound values) old new result → Takes old new result (length things) (λ stored. AreNew is_same row_of things (rows stored))
      rows_take fits are fails =
          takes_as old new result (λ stored. AreNew is_same row_of things (rows stored)) (length-map things row_of)
          (all_take text old new result index table stands.placed stands.uncounted (numbered_so index table rows with_rows stands) (low_so index table stands.placed)
          (fits_alone table (at_index (λ (t : Table). t.references ≡ []) tables index table stands.placed none_referred))
          (rows_alike shared own (length things)) (1 + (shared + own)) (parameters_to (shared + own * length things)) params (map row_of things) (λ stored. AreNew is_same row_of things (rows stored))
          means are_given (fitting fits things are)
          (λ database known none. free_so database.trees things are (database.trees table.tree) (numbered_so index table rows with_rows stands database known)
          (subst (AreNew is_same row_of things) (stands.here database.trees) none))
          (subst (λ row. Ran text row old new result) at ran) (subst (λ row. FailsInside text row old new result) at fails))

-- what two lists of facts say of each is said together
pub fit_so : {X : Type 0} (P Q : X → Type 0) (xs : List X) → AllByRecursion P xs → AllByRecursion Q xs → AllByRecursion (λ x. P x × Q x) xs
fit_so P Q [] one two = tt
fit_so P Q (x ∷ xs) one two = ((one.0, two.0), fit_so P Q xs one.1 two.1)
