-- What a statement that makes a table or the index leaves, and what the statements leave together.
use Rattle.std.proofs.Common.{◌≡◌, ℕ, false, List, [], ◌∷◌, ◌++◌, Some, None, Result, Ok, Err, IsTrue, OnOk, take, refl, sym, ◌∙◌, ap, subst, arith}
use Rattle.std.specs.Prelude.{◌==◌, cond, length, slice_get}
use Rattle.std.specs.List.{AllByRecursion}
use Rattle.std.specs.Result.{IsErr}
use Rattle.std.proofs.lemmas.Bool.{false≢true}
use Rattle.sqlite.proofs.Callers.{IsPlain, command_of, runs_as, statement_of}
use Rattle.sqlite.specs.Change.{KeepsRows, created, indexed, next_tree}
use Rattle.sqlite.specs.Command.TheVariants.{CreateIndex, CreateTable}
use Rattle.sqlite.specs.Does.{Defines, MakesIndex as IndexMade, Tally, lacks_sequence}
use Rattle.sqlite.specs.Effect.{Database, IsDatabase}
use Rattle.sqlite.specs.Order.{Row}
use Rattle.sqlite.specs.State.{Executes, HasCleanDisk, State, Writes, mode_of}
use Rattle.sqlite.specs.Table.{Table}
use Rattle.sqlite.specs.Tree.{Trees}
use Rattle.sqlite_schema.specs.declared.schema.Index.{Index}
use Rattle.sqlite_trees.proofs.ListLemmas.{all_weaker}
use Rattle.sqlite.specs.Schema.{Schema}
use Rattle.sql_texts.specs.Meaning.{MakesIndex, MakesTable, Means}
use Rattle.sql_texts.specs.Schema.{bureau, indexes, made, tables}
use Rattle.sql_texts.specs.Writes.{this_version}
use Rattle.sql_tables.specs.Numbered.{IsNumbered}
use Rattle.sql_tables.specs.Ours.{version_rows}
use Rattle.sql_writes.specs.Making.{IsMade, IsOpened, Leads}
use Rattle.sql_rows.specs.Running.{Ran}
use Rattle.sql_tables.proofs.StopFacts.{survives_both, was_clean}
use Rattle.sql_rows.proofs.ChangeFacts.{keeps_both}
use Rattle.sql_writes.proofs.RefusalFacts.{whole_text}
use Rattle.sql_rows.proofs.StatementFacts.{inserts_version, on_table, same_value, went}
use Rattle.sql_rows.proofs.StoredFacts.{held_alike, held_set, known_after}

-- what CREATE TABLE leaves
pub record HasTable (before after : Schema) (old new : Database) : Type 0 where
  pub schema : new.schema ≡ after
  pub sound : IsDatabase new
  pub empty : new.trees (next_tree before) ≡ []
  pub others : KeepsRows before.tables old.trees new.trees

pub makes_table : (before after : Schema) (text : List ℕ) (table : Table) (old new : State) (count : ℕ) → MakesTable before text table after → lacks_sequence after ≡ false
    → old.now.schema ≡ before → Executes text [] old new (Ok count) → HasTable before after old.now new.now
makes_table before after text table old new count makes unlacking has h =
    let plain = subst IsPlain (sym makes.statement) (refl, refl) in
    let ran = runs_as text [] old new before has CreateTable (ap command_of makes.statement) plain count h in
    let w = subst (λ t. Writes old new None CreateTable t [] count) (ap (statement_of text) makes.statement ∙ whole_text text) ran in
    let all = went w.changed in
    let first = went all.1 in
    let it = first.1 in
    let same : it.table ≡ record table { tree = 0 } = same_value (sym it.defined ∙ makes.defined) in
    let schema : first.0.schema ≡ after = it.is ∙ ap (λ s. created s it.table) has ∙ ap (created before) same ∙ makes.made in
    let none : lacks_sequence first.0.schema ≡ false = ap lacks_sequence schema ∙ unlacking in
    let now : new.now ≡ first.0 = ap (λ (p : Tally × Database). p.1) (same_value all.2) ∙ same_value (rw none at first.2) in
    record {
      schema = ap (λ (d : Database). d.schema) now ∙ schema;
      sound = w.sound;
      empty = ap (λ (d : Database). d.trees (next_tree before)) now ∙ subst (λ t. first.0.trees t ≡ []) (ap next_tree has) it.empty;
      others = subst (λ (d : Database). KeepsRows before.tables old.now.trees d.trees) (sym now) (subst (λ s. KeepsRows s.tables old.now.trees first.0.trees) has it.others);
    }

-- what CREATE INDEX leaves
record HasIndex (before after : Schema) (old new : Database) : Type 0 where
  pub schema : new.schema ≡ after
  pub sound : IsDatabase new
  pub others : KeepsRows before.tables old.trees new.trees

makes_index : (before after : Schema) (table_index : ℕ) (text : List ℕ) (table : Table) (index : Index) (old new : State) (count : ℕ) → MakesIndex before text table_index table index after
    → slice_get before.tables table_index ≡ Some table → old.now.schema ≡ before → Executes text [] old new (Ok count) → HasIndex before after old.now new.now
makes_index before after table_index text table index old new count makes at has h =
    let plain = subst IsPlain (sym makes.statement) (refl, refl) in
    let ran = runs_as text [] old new before has (CreateIndex table_index) (ap command_of makes.statement) plain count h in
    let w = subst (λ t. Writes old new None (CreateIndex table_index) t [] count) (ap (statement_of text) makes.statement ∙ whole_text text) ran in
    let here : slice_get old.now.schema.tables table_index ≡ Some table = ap (λ s. slice_get s.tables table_index) has ∙ at in
    let all = went (on_table old.step_limit (mode_of old) [] old.now table_index (λ task. Defines (mode_of old) (IndexMade text old.now task.table)) table (Ok (w.tally, new.now)) here w.changed) in
    let it = all.1 in
    let same : it.index ≡ record index { tree = 0 } = same_value (sym it.defined ∙ makes.defined) in
    let schema : all.0.schema ≡ after = it.is ∙ ap (λ s. indexed s table it.index) has ∙ ap (indexed before table) same ∙ makes.made in
    let now : new.now ≡ all.0 = ap (λ (p : Tally × Database). p.1) (same_value all.2) in
    record {
      schema = ap (λ (d : Database). d.schema) now ∙ schema;
      sound = w.sound;
      others = subst (λ (d : Database). KeepsRows before.tables old.now.trees d.trees) (sym now) (subst (λ s. KeepsRows s.tables old.now.trees all.0.trees) has it.rows);
    }

-- ---- so many tables

emptied : (old new : Trees) (all : List Table) → AllByRecursion (λ table. old table.tree ≡ []) all → KeepsRows all old new → AllByRecursion (λ table. new table.tree ≡ []) all
emptied old new [] empty kept = tt
emptied old new (table ∷ all) empty kept = (kept.0 ∙ empty.0, emptied old new all empty.1 kept.1)

pub one_more : (P : Table → Type 0) (all : List Table) (table : Table) → AllByRecursion P all → P table → AllByRecursion P (all ++ table ∷ [])
one_more P [] table all here = (here, tt)
one_more P (t ∷ ts) table all here = (all.0, one_more P ts table all.1 here)

-- ---- one statement after the other

-- one statement leads where its running leads
pub leads_by : {A F : Type 0} (text : List ℕ) (params : Row) (old new : State) (result : Result A F) (From To : Database → Type 0) → Ran text params old new result
    → ((count : ℕ) → Executes text params old new (Ok count) → From old.now → To new.now) → Leads old new result From To
leads_by {A} {F} text params old new result From To ran led = record { keeps = ran.keeps; survives = ran.survives; done = by result ran.done }
  where
    by : (r : Result A F)
        → OnOk r (HasCleanDisk new → IsTrue old.in_transaction → IsTrue new.is_open × IsTrue new.in_transaction × ((count : ℕ) × Executes text params old new (Ok count)))
        → OnOk r (HasCleanDisk new → IsTrue old.in_transaction → IsTrue new.is_open × IsTrue new.in_transaction × (From old.now → To new.now))
    by (Ok a) done = λ clean inside. let it = done clean inside in (it.0, it.1, led it.2.0 it.2.1)
    by (Err e) done = tt

-- the next table, where so many are there
pub table_comes : {A F : Type 0} (From : Database → Type 0) (n m n′ m′ : ℕ) (text : List ℕ) (table : Table) (old new : State) (result : Result A F)
    → ((db : Database) → From db → (db.schema ≡ made n m) × AllByRecursion (λ t. db.trees t.tree ≡ []) (take n tables))
    → MakesTable (made n m) text table (made n′ m′) → lacks_sequence (made n′ m′) ≡ false → Ran text [] old new result → Leads old new result From (IsMade n′ m′)
table_comes From n m n′ m′ text table old new result begins makes unlacking ran =
    leads_by text [] old new result From (IsMade n′ m′) ran (λ count executes from.
    let begun = begins old.now from in
    let has = makes_table (made n m) (made n′ m′) text table old new count makes unlacking begun.0 executes in
    record {
      schema = has.schema;
      sound = has.sound;
      empty = subst (AllByRecursion (λ t. new.now.trees t.tree ≡ [])) (ap (λ (s : Schema). s.tables) makes.made)
          (one_more (λ t. new.now.trees t.tree ≡ []) (take n tables) (record table { tree = next_tree (made n m) }) (emptied old.now.trees new.now.trees (take n tables) begun.1 has.others) has.empty);
    })

-- the index, where so many tables are there
pub index_comes : {A F : Type 0} (n m m′ table_index : ℕ) (text : List ℕ) (table : Table) (index : Index) (old new : State) (result : Result A F)
    → MakesIndex (made n m) text table_index table index (made n m′) → slice_get (made n m).tables table_index ≡ Some table
    → Ran text [] old new result → Leads old new result (IsMade n m) (IsMade n m′)
index_comes n m m′ table_index text table index old new result makes at ran =
    leads_by text [] old new result (IsMade n m) (IsMade n m′) ran (λ count executes so_far.
    let has = makes_index (made n m) (made n m′) table_index text table index old new count makes at so_far.schema executes in
    record { schema = has.schema; sound = has.sound; empty = emptied old.now.trees new.now.trees (take n tables) so_far.empty has.others })

pub leads_then : {A B E F : Type 0} (old mid new : State) (a : A) (result : Result B F) (One Two Three : Database → Type 0) → Leads {Fault = E} old mid (Ok a) One Two → Leads mid new result Two Three
    → Leads old new result One Three
leads_then {A} {B} {E} {F} old mid new a result One Two Three one two = record {
  keeps = keeps_both old mid new one.keeps two.keeps two.survives (λ clean inside. (one.done clean inside).1);
  survives = survives_both old mid new one.survives two.survives;
  done = by result two.done;
}
  where
    by : (r : Result B F)
        → OnOk r (HasCleanDisk new → IsTrue mid.in_transaction → IsTrue new.is_open × IsTrue new.in_transaction × (Two mid.now → Three new.now))
        → OnOk r (HasCleanDisk new → IsTrue old.in_transaction → IsTrue new.is_open × IsTrue new.in_transaction × (One old.now → Three new.now))
    by (Ok b) done = λ clean inside.
        let before = one.done (was_clean mid new _ two.survives clean) inside in
        let it = done clean before.1 in
        (it.0, it.1, λ here. it.2 (before.2 here))
    by (Err e) done = tt

pub leads_nowhere : {A B E F : Type 0} (old new : State) (e : E) (result : Result B F) (One Two Three : Database → Type 0) → IsErr result
    → Leads {Answer = A} old new (Err e) One Two → Leads old new result One Three
leads_nowhere old new e (Ok b) One Two Three is h = absurd (false≢true is)
leads_nowhere old new e (Err f) One Two Three is h = record { keeps = h.keeps; survives = h.survives; done = tt }

-- ---- the version and the callers

all_numbered : (trees : Trees) (all : List Table) → AllByRecursion (λ table. trees table.tree ≡ []) all → AllByRecursion (λ table. IsNumbered (trees table.tree)) all
all_numbered trees [] empty = tt
all_numbered trees (table ∷ all) empty = (subst IsNumbered (sym empty.0) (tt, tt), all_numbered trees all empty.1)

opened_by : (text : List ℕ) (old new : State) (count : ℕ) → Means bureau text this_version 0 → Executes text [] old new (Ok count) → IsMade (length tables) (length indexes) old.now → IsOpened [] new.now
opened_by text old new count means executes so_far =
    let set = inserts_version text old new count means so_far.schema so_far.empty.0 executes in
    let o = set.others in
    let e = so_far.empty in
    record {
      known = known_after 0 (version_rows 2) old.now new.now (all_numbered old.now.trees tables e) set;
      version = set.rows_are;
      callers_are = o.1.0 (λ x. omega (arith, x)) ∙ e.1.0;
      held = held_set 0 (version_rows 2) old.now new.now set ∙ held_alike (λ t. cond (t == 0) (version_rows 2) (old.now.trees t)) (λ t. cond (t == 0) (version_rows 2) [])
          (all_weaker (λ (table : Table). old.now.trees table.tree ≡ []) (λ (table : Table). cond (table.tree == 0) (version_rows 2) (old.now.trees table.tree) ≡ cond (table.tree == 0) (version_rows 2) [])
          (λ table none. ap (λ rows. cond (table.tree == 0) (version_rows 2) rows) none) tables e);
    }

pub version_comes : {A F : Type 0} (text : List ℕ) (old new : State) (result : Result A F) → Means bureau text this_version 0 → Ran text [] old new result → Leads old new result (IsMade (length tables) (length indexes)) (IsOpened [])
version_comes text old new result means ran =
    leads_by text [] old new result (IsMade (length tables) (length indexes)) (IsOpened []) ran (λ count executes. opened_by text old new count means executes)
