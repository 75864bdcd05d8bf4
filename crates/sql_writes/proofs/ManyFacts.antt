-- What a statement that inserts several rows makes of its table, and why it is refused.
use Rattle.std.proofs.Common.{◌≡◌, ◌≢◌, ◌<◌, ◌+◌, ◌^◌, ◌++◌, ◌&&◌, ◌/◌, ℕ, ℤ, Bool, true, false, List, [], ◌∷◌, Option, None, Some, Result, Ok, Err, IsTrue, OnOk, length, map, suc, refl, sym, ◌∙◌, ap, ap₂, subst, inl, inr, arith, append_assoc}
use Rattle.std.specs.Prelude.{◌==◌, IsSome, cond, drop, nat_lt, not, slice_get}
use Rattle.std.specs.List.{AllByRecursion, list_all}
use Rattle.std.proofs.lemmas.Bool.{eq-eqb, eqb-true, lt-ltb}
use Rattle.std.proofs.lemmas.List.{append-nil}
use Rattle.sqlite.specs.Cast.{cast_row}
use Rattle.sqlite.specs.Command.TheVariants.{Insert}
use Rattle.sqlite.specs.Does.{Does, OnRows, Tally}
use Rattle.sqlite.specs.Edit.{edit_of, edited, id_in, next_rowid, numbered, put_all}
use Rattle.sqlite.specs.Effect.{Database, value_rows}
use Rattle.sqlite.specs.Listing.{understood}
use Rattle.sqlite.specs.Order.{Row}
use Rattle.sqlite.specs.Rowids.{Rowids}
use Rattle.sqlite.specs.Rowids.TheVariants.{Chosen}
use Rattle.sqlite.specs.Rows.{Task, Written, count_of, rowids_for, stamped}
use Rattle.sqlite.specs.Source.TheVariants.{Values}
use Rattle.sqlite.specs.State.{Executes, HasCleanDisk, State, mode_of}
use Rattle.sqlite.specs.Table.{Table}
use Rattle.sqlite.specs.Term.{Term}
use Rattle.sqlite.specs.Tree.{Trees, put_row, rowid}
use Rattle.sqlite.specs.declared.error.Error.{Error}
use Rattle.sqlite.specs.declared.types.Value.TheVariants.{Int}
use Rattle.sqlite.proofs.Callers.{IsPlain, command_of, one_step, runs_as, statement_of}
use Rattle.sqlite_rules.specs.Edit.{Edit, IsOversized, IsRefused, are_fresh}
use Rattle.sqlite_rules.specs.Keys.{are_unique}
use Rattle.sqlite_rules.specs.Lists.{Has}
use Rattle.sqlite_rules.specs.declared.error.Refusal.{Refusal}
use Rattle.sqlite_rules.specs.declared.error.Refusal.TheVariants as rule
use Rattle.sqlite_rules.specs.declared.error.Refusal.TheVariants.{BadReference, Mismatch, NoRowid, TooDeep}
use Rattle.sqlite_rules.proofs.ListLemmas.{all_has, has_got, has_kept}
use Rattle.sqlite_rules.proofs.PlaceLemmas.{next_is_free}
use Rattle.sqlite_rules.proofs.RuleLemmas.{Turns, unique_kept}
use Rattle.sqlite_rules.proofs.TableLemmas.{has_put, put_all_keeps, put_has}
use Rattle.sqlite_schema.specs.Rules.{Keeps, passes, references_fit, table_reals, index_reals}
use Rattle.sqlite_schema.specs.declared.schema.Constraint.TheVariants.{Check, Datatype, ForeignKey, NotNull, PrimaryKey, Unique}
use Rattle.sqlite_schema.specs.declared.schema.Index.{Index}
use Rattle.sqlite_schema.specs.declared.schema.Keys.TheVariants.{Enforced}
use Rattle.sqlite_sql.specs.Catalog.{entry_of}
use Rattle.sqlite_sql.specs.Ops.{fits_i64}
use Rattle.sqlite_trees.proofs.ListLemmas.{all_weaker}
use Rattle.sqlite_trees.proofs.TreeLemmas.{IsShaped-put_row}
use Rattle.sqlite_trees.specs.Tree.{with_tree}
use Rattle.sqlite_trees.specs.View.{IsStorable, IsStorableRow, is_int}
use Rattle.sql_texts.specs.Schema.{bureau, indexes, tables}
use Rattle.sql_tables.specs.InTrees.{columns_of}
use Rattle.sql_tables.specs.Stored.{Stored}
use Rattle.sql_tables.specs.Numbered.{IsNumbered}
use Rattle.sql_tables.specs.Ours.{held_by}
use Rattle.sql_tables.specs.Writing.{IsKnown}
use Rattle.sql_tables.proofs.StopFacts.{was_clean}
use Rattle.sql_writes.specs.Excused.{IsExcused, Takes}
use Rattle.sql_writes.specs.Many.{IsGiven, MeansBy, unnumbered, with_next}
use Rattle.sql_writes.specs.Room.{AreUpTo, IsRoomy, are_up_to}
use Rattle.sql_rows.specs.Fitting.{IsFitting}
use Rattle.sql_rows.specs.Running.{FailsInside, Ran}
use Rattle.sql_writes.proofs.ExcuseFacts.{excused_by}
use Rattle.sql_writes.proofs.NumberFacts.{all_raised, next_is, one_more_up_to, raised_up_to, set_up_to}
use Rattle.sql_writes.proofs.RefusalFacts.{both}
use Rattle.sql_rows.proofs.RowidFacts.{put_next}
use Rattle.sql_writes.proofs.RuleFacts.{IsSound, insert_stops}
use Rattle.sql_writes.proofs.SoundFacts.{elsewhere, here_it_is, trees_apart}
use Rattle.sql_rows.proofs.StatementFacts.{IsSet, chosen_for, on_table, same_value, uncounted_rows, went}
use Rattle.sql_writes.proofs.StepFacts.{From, keys_once}
use Rattle.sql_rows.proofs.StoredFacts.{come}

-- rows under the numbers that follow one another from the next one on
abbrev pub news : List Row → List Row → List Row
news rows all = numbered Chosen rows (unnumbered all)

-- a table with them
abbrev pub grown : List Row → List Row → List Row
grown rows all = put_all rows (news rows all)

pub numbered_more : (rows : List Row) (values : Row) → IsNumbered rows → IsNumbered (put_row (with_next rows values) rows)
numbered_more rows values ordered = IsShaped-put_row (with_next rows values) rows refl ordered

pub grown_numbered : (all rows : List Row) → IsNumbered rows → IsNumbered (grown rows all)
grown_numbered [] rows ordered = ordered
grown_numbered (values ∷ all) rows ordered = grown_numbered all (put_row (with_next rows values) rows) (numbered_more rows values ordered)

pub columns_more : (rows : List Row) (values : Row) → IsNumbered rows → columns_of (put_row (with_next rows values) rows) ≡ columns_of rows ++ values ∷ []
columns_more rows values ordered = ap columns_of (put_next values rows ordered) ∙ come rows (with_next rows values)

pub grown_columns : (all rows : List Row) → IsNumbered rows → columns_of (grown rows all) ≡ columns_of rows ++ all
grown_columns [] rows ordered = sym (append-nil (columns_of rows))
grown_columns (values ∷ all) rows ordered =
    grown_columns all (put_row (with_next rows values) rows) (numbered_more rows values ordered)
    ∙ ap (λ columns. columns ++ all) (columns_more rows values ordered)
    ∙ append_assoc (columns_of rows) (values ∷ []) all

up_to_more : (most : ℕ) (rows : List Row) (values : Row) → IsNumbered rows → are_up_to most rows ≡ true → are_up_to (most + 1) (put_row (with_next rows values) rows) ≡ true
up_to_more most rows values ordered low = subst (λ r. are_up_to (most + 1) r ≡ true) (sym (put_next values rows ordered)) (one_more_up_to most values rows low)

pub grown_up_to : (all : List Row) (most : ℕ) (rows : List Row) → IsNumbered rows → are_up_to most rows ≡ true → are_up_to (most + length all) (grown rows all) ≡ true
grown_up_to [] most rows ordered low = all_raised most 0 rows low
grown_up_to (values ∷ all) most rows ordered low =
    let next = put_row (with_next rows values) rows in
    let sum : (most + 1) + length all ≡ most + suc (length all) = omega arith in
    subst (λ n. are_up_to n (grown next all) ≡ true) sum (grown_up_to all (most + 1) next (numbered_more rows values ordered) (up_to_more most rows values ordered low))

-- ---- no rule speaks against them

fresh : (all rows : List Row) → IsNumbered rows → are_fresh rows (news rows all) ≡ true
fresh [] rows ordered = refl
fresh (values ∷ all) rows ordered =
    ap₂ (λ a b. not a && b) (next_is_free Chosen rows values ordered.0 ordered.1) (fresh all (put_row (with_next rows values) rows) (numbered_more rows values ordered))

within : (all : List Row) (most : ℕ) (rows : List Row) → IsNumbered rows → are_up_to most rows ≡ true → most + length all < 2 ^ 63
    → list_all (λ row. fits_i64 (id_in (rowid row))) (news rows all) ≡ true
within [] most rows ordered low room = refl
within (values ∷ all) most rows ordered low room =
    let it = next_is most rows low in
    let below = it.2 in
    let small : it.0 < 2 ^ 63 = omega (arith, room, below) in
    ap₂ ◌&&◌ (ap fits_i64 it.1 ∙ lt-ltb it.0 (2 ^ 63) small)
    (within all (most + 1) (put_row (with_next rows values) rows) (numbered_more rows values ordered) (up_to_more most rows values ordered low) (omega (arith, room)))

-- what is so of each row under every number
each_new : (test : Row → Bool) (all rows : List Row) → AllByRecursion (λ values. (n : ℤ) → test (Int n ∷ values) ≡ true) all → list_all test (news rows all) ≡ true
each_new test [] rows each = refl
each_new test (values ∷ all) rows each = ap₂ ◌&&◌ (each.0 (next_rowid rows)) (each_new test all (put_row (with_next rows values) rows) each.1)

new_is : (all rows : List Row) (row : Row) → Has (news rows all) row → (values : Row) × Has all values × (n : ℤ) × (row ≡ Int n ∷ values)
new_is [] rows row none = absurd none
new_is (values ∷ all) rows row (inl same) = (values, inl refl, next_rowid rows, same)
new_is (values ∷ all) rows row (inr later) =
    let it = new_is all (put_row (with_next rows values) rows) row later in
    (it.0, inr it.1, it.2, it.3)

whole : (all rows : List Row) → list_all (λ row. is_int (rowid row)) (news rows all) ≡ true
whole [] rows = refl
whole (values ∷ all) rows = whole all (put_row (with_next rows values) rows)

module _ (table : Table) (listed : Has bureau.tables table) (db : Trees) where
  -- the trees with other rows in that table
  abbrev at : List Row → Trees
  at rows = with_tree db table.tree rows

  -- each row keeps the keys of the table apart, with those before it
  abbrev pub AreFree : List Row → List Row → Type 0
  AreFree rows [] = Unit {0}
  AreFree rows (values ∷ all) =
      (are_unique bureau.indexes (at (put_row (with_next rows values) rows)) table (with_next rows values ∷ []) ≡ true) × AreFree (put_row (with_next rows values) rows) all

  turned_more : (rows : List Row) (values : Row) → IsNumbered rows
      → Turns bureau (at rows) (at (put_row (with_next rows values) rows)) table rows [] (with_next rows values ∷ [])
  turned_more rows values ordered =
      let new = with_next rows values in
      let after = put_row new rows in record {
        apart = trees_apart;
        listed = listed;
        others = λ t known other. elsewhere db table.tree after t.tree other ∙ sym (elsewhere db table.tree rows t.tree other);
        from = λ r here. elim (put_has new rows r (subst (λ l. Has l r) (here_it_is db table.tree after) here)) [ inl is ↦ inl (inl is) | inr was ↦ inr was ];
        stays = λ r here. subst (λ l. Has l r) (sym (here_it_is db table.tree after)) (put_all_keeps (new ∷ []) rows r (fresh (values ∷ []) rows ordered) here);
        added = λ r here. elim here [
          | inl is ↦ subst (λ l. Has l r) (sym (here_it_is db table.tree after)) (subst (Has after) (sym is) (has_put new rows))
          | inr none ↦ absurd none
        ];
        was = λ r here. subst (λ l. Has l r) (sym (here_it_is db table.tree rows)) here;
        split = λ r here. inl (subst (λ l. Has l r) (here_it_is db table.tree rows) here);
      }

  keys_kept : (all rows : List Row) → IsNumbered rows → AreFree rows all → Keeps Unique bureau (at rows) → Keeps Unique bureau (at (grown rows all))
  keys_kept [] rows ordered free keeps = keeps
  keys_kept (values ∷ all) rows ordered free keeps =
      let after = put_row (with_next rows values) rows in
      keys_kept all after (numbered_more rows values ordered) free.1
      (unique_kept bureau (at rows) (at after) table rows [] (with_next rows values ∷ []) (turned_more rows values ordered) free.0 keeps)

  -- the trees as they are
  as_they_are : at (db table.tree) ≡ db
  as_they_are = λ i t. by t (t == table.tree) refl i
    where
      by : (t : ℕ) (b : Bool) → (t == table.tree) ≡ b → cond b (db table.tree) (db t) ≡ db t
      by t true same = ap db (sym (eqb-true t table.tree same))
      by t false apart = refl

  pub cast_all : (all : List Row) → AllByRecursion (IsFitting table) all → map (λ source. cast_row table (drop 0 source)) (unnumbered all) ≡ unnumbered all
  cast_all [] fits = refl
  cast_all (values ∷ all) fits = ap₂ ◌∷◌ fits.0.cast (cast_all all fits.1)

  module _ (all : List Row) (fits : AllByRecursion (IsFitting table) all) (referred : (adds : Bool) → references_fit bureau table adds false ≡ true) (most : ℕ) (ordered : IsNumbered (db table.tree))
      (low : are_up_to most (db table.tree) ≡ true) (room : most + length all < 2 ^ 63) (keeps : Keeps Unique bureau db) (free : AreFree (db table.tree) all) where
    abbrev edit : Edit
    edit = record { table = table; gone = []; news = news (db table.tree) all }

    ruled : (r : Refusal) → IsRefused bureau Enforced db edit r → ⊥
    ruled (rule.Violates Datatype) fails = both (each_new (passes Datatype bureau db table) all (db table.tree) (all_weaker (IsFitting table) (λ values. (n : ℤ) → passes Datatype bureau db table (Int n ∷ values) ≡ true) (λ values fit. fit.typed db) all fits)) fails
    ruled (rule.Violates NotNull) fails = both (each_new (passes NotNull bureau db table) all (db table.tree) (all_weaker (IsFitting table) (λ values. (n : ℤ) → passes NotNull bureau db table (Int n ∷ values) ≡ true) (λ values fit. fit.present db) all fits)) fails
    ruled (rule.Violates Check) fails = both (each_new (passes Check bureau db table) all (db table.tree) (all_weaker (IsFitting table) (λ values. (n : ℤ) → passes Check bureau db table (Int n ∷ values) ≡ true) (λ values fit. fit.checked db) all fits)) fails
    ruled (rule.Violates PrimaryKey) fails = both (fresh all (db table.tree) ordered) fails
    ruled (rule.Violates Unique) fails = fails (keys_kept all (db table.tree) ordered free (subst (Keeps Unique bureau) (sym as_they_are) keeps))
    ruled (rule.Violates ForeignKey) fails = fails
    ruled Mismatch fails = both (whole all (db table.tree)) fails
    ruled NoRowid fails = both (within all most (db table.tree) ordered low room) fails
    ruled BadReference fails = both (referred (nat_lt 0 (length (news (db table.tree) all)))) fails
    ruled TooDeep fails = fails

    small : (row : Row) → Has (news (db table.tree) all) row → IsOversized bureau table row → ⊥
    small row here big =
        let it = new_is all (db table.tree) row here in
        let fit = all_has (IsFitting table) all it.0 fits it.1 in
        elim big [
          | inl wide ↦ wide (subst (IsStorableRow (table_reals table)) (sym it.3) (fit.storable it.2))
          | inr key ↦ key.3 (
              subst (λ r. IsStorable (index_reals (table_reals table) key.0.columns) (entry_of key.0.columns r)) (sym it.3)
              (fit.keys it.2 key.0 (has_kept (λ (i : Index). i.table == table.tree) indexes key.0 key.1 (eq-eqb key.0.table table.tree key.2))))
        ]

    pub come_soundly : IsSound db (edit_of db table [] Chosen 0 (unnumbered all))
    come_soundly =
        subst (λ rows. IsSound db (record { table = table; gone = []; news = numbered Chosen (db table.tree) rows })) (sym (cast_all all fits))
        (record { free = refl; ruled = ruled; small = small })

-- ---- one statement

module _ (text : List ℕ) (old new : State) (table_index : ℕ) (table : Table) (at_index : slice_get tables table_index ≡ Some table) (uncounted : table.is_counted ≡ false)
    (terms : List Term) (width : ℕ) (names : List (List ℕ)) (params : Row) (all : List Row)
    (source : value_rows (stamped table params) width (length terms / width) terms ≡ unnumbered all)
    (cast_is : map (λ given. cast_row table (drop 0 given)) (unnumbered all) ≡ unnumbered all) where
  -- they come after those of the table
  pub inserts_all : (count : ℕ) → MeansBy bureau text (Insert table_index (Values terms width)) names → old.now.schema ≡ bureau
      → IsNumbered (old.now.trees table.tree) → Executes text params old new (Ok count) → IsSet table.tree (grown (old.now.trees table.tree) all) old.now new.now
  inserts_all count means ours ordered h =
      let db = old.now.trees in
      let rows = db table.tree in
      let command = Insert table_index (Values terms width) in
      let plain = subst IsPlain (sym means.statement) (refl, refl) in
      let w = runs_as text params old new bureau ours command (ap command_of means.statement) plain count h in
      let ran = subst (λ s. Does old.step_limit (mode_of old) params (record old.now { schema = s }) (statement_of text (understood bureau text)) None command (Ok (w.tally, new.now))) ours w.changed in
      let done = went (on_table old.step_limit (mode_of old) params (record old.now { schema = bureau }) table_index (λ task. OnRows task (mode_of old) None command db) table (Ok (w.tally, new.now)) at_index ran) in
      let now = ap (λ (p : Tally × Database). p.1) (same_value (went (went done.2).2).2) in
      let given = went done.1 in
      let counted = went given.2 in
      let edits = went counted.2 in
      let counts = went edits.2 in
      let task : Task = record { limit = old.step_limit; keys = (mode_of old).keys; schema = bureau; table = table; params = params } in
      let kept : counts.0 ≡ edits.0 = uncounted_rows task edits.0 counts.0 counted.0 _ uncounted counts.1 in
      let trees : done.0.trees ≡ edits.0 = ap (λ (it : Written). it.trees) (same_value counts.2) ∙ kept in
      let chosen : rowids_for table (count_of counted.0) ≡ Chosen = chosen_for table (count_of counted.0) uncounted in
      let edit = edit_of db table [] (rowids_for table (count_of counted.0)) 0 given.0 in
      let applied = one_step bureau _ db edits.0 edit refl edits.1 in
      let put : edited db edit ≡ grown rows all =
      ap (λ (r : Rowids). edited db (edit_of db table [] r 0 given.0)) chosen
      ∙ ap (λ sources. edited db (edit_of db table [] Chosen 0 sources)) (given.1.1 ∙ source)
      ∙ ap (λ sources. put_all rows (numbered Chosen rows sources)) cast_is in
      let same = λ (t : ℕ). ap (λ (d : Database). d.trees t) now ∙ ap (λ (every : Trees). every t) trees in
      record {
        schema = ap (λ (d : Database). d.schema) now;
        sound = w.sound;
        rows_are = same table.tree ∙ applied.rows ∙ put;
        numbered = grown_numbered all rows ordered;
        others = subst (λ (every : ℕ → List Row). AllByRecursion (λ t. t.tree ≢ table.tree → every t.tree ≡ db t.tree) tables) (sym (ap (λ (d : Database). d.trees) now ∙ trees)) applied.tables;
      }

-- why it is refused, and which numbers the table has after it
module _ (text : List ℕ) (old new : State) (result : Result (Unit {0}) Error) (table_index : ℕ) (table : Table) (at_index : slice_get tables table_index ≡ Some table) (uncounted : table.is_counted ≡ false)
    (numbered_so : (database : Database) → IsKnown database → IsNumbered (database.trees table.tree)) (low_so : (most : ℕ) (trees : Trees) → AreUpTo most trees → are_up_to most (trees table.tree) ≡ true)
    (referred : (adds : Bool) → references_fit bureau table adds false ≡ true) where
  pub all_take : (terms : List Term) (width : ℕ) (names : List (List ℕ)) (params : Row) (all : List Row) (Fits : Stored → Type 0)
      → (HasCleanDisk old → MeansBy bureau text (Insert table_index (Values terms width)) names) → IsGiven table terms width names params all
      → AllByRecursion (IsFitting table) all
      → ((database : Database) → IsKnown database → Fits (held_by database) → AreFree table (has_got tables table_index table at_index) database.trees (database.trees table.tree) all)
      → Ran text params old new result → FailsInside text params old new result → Takes old new result (length all) Fits
  all_take terms width names params all Fits means given fits free ran fails =
      record { excused = λ most room. excused most room result fails; numbers = done result ran.done }
    where
      listed : Has bureau.tables table
      listed = has_got tables table_index table at_index

      stops : (most : ℕ) → most + length all < 2 ^ 63 → From most Fits old.now → (stop : Option Error) → Does old.step_limit (mode_of old) params old.now text None (Insert table_index (Values terms width)) (Err stop) → IsSome old.step_limit
      stops most room from stop =
          insert_stops old text table_index table terms width params (unnumbered all) from.0.0.schema at_index uncounted given.accepted given.source
          (come_soundly table listed old.now.trees all fits referred most (numbered_so old.now from.0.0) (low_so most old.now.trees from.0.1) room (keys_once old.now from.0.0) (free old.now from.0.0 from.1)) stop

      excused : (most : ℕ) → most + length all < 2 ^ 63 → (r : Result (Unit {0}) Error) → FailsInside text params old new r → IsExcused old new r (From most Fits)
      excused most room (Ok a) fails = tt
      excused most room (Err e) fails = λ clean inside from.
          excused_by {A = Unit {0}} text old new (Err e) (From most Fits) bureau (Insert table_index (Values terms width)) names params (λ database from. from.0.0.schema) (means (was_clean old new _ ran.survives clean)).statement given.counted refl
          (λ from stop h. stops most room from stop h) fails clean inside from

      done : (r : Result (Unit {0}) Error) → OnOk r (HasCleanDisk new → IsTrue old.in_transaction → IsTrue new.is_open × IsTrue new.in_transaction × ((count : ℕ) × Executes text params old new (Ok count)))
          → OnOk r (HasCleanDisk new → IsTrue old.in_transaction → (most : ℕ) → IsRoomy most old.now → AreUpTo (most + length all) new.now.trees)
      done (Err e) went = tt
      done (Ok a) went = λ clean inside most from.
          let it = (went clean inside).2 in
          let ordered = numbered_so old.now from.0 in
          let set = inserts_all text old new table_index table at_index uncounted terms width names params all given.source (cast_all table listed old.now.trees all fits) it.0
          (means (was_clean old new _ ran.survives clean)) from.0.schema ordered it.1 in
          set_up_to (most + length all) table.tree _ old.now new.now set (grown_up_to all most (old.now.trees table.tree) ordered (low_so most old.now.trees from.1)) (raised_up_to most (length all) old.now.trees from.1)
