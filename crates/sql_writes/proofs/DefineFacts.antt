-- No rule of a database speaks against a text that makes a table or an index whose names are new.
use Rattle.std.proofs.Common.{◌≡◌, ◌≤◌, ◌<◌, ◌+◌, ◌^◌, ℕ, true, false, List, [], ◌∷◌, Option, Some, None, Ok, Err, length, sym, ◌∙◌, ap, subst, inl, inr, arith, zero, suc}
use Rattle.std.specs.Prelude.{Bool, IsSome, IsUtf8, ◌*◌, codes, nat_lt, slice_index, not, slice_get}
use Rattle.std.specs.Char.{is_ascii}
use Rattle.std.specs.List.{AllByRecursion, list_all}
use Rattle.std.proofs.lemmas.Bool.{and_parts, ltb-true, not-true}
use Rattle.std.proofs.lemmas.Str.{IsUtf8-from_ascii}
use Rattle.sqlite.specs.Change.{created, indexed, next_tree}
use Rattle.sqlite.specs.Compile.{index_defined_by, table_defined_by}
use Rattle.sqlite.specs.Command.TheVariants.{CreateIndex, CreateTable}
use Rattle.sqlite.specs.Does.{Defines, Does, MakesIndex as IndexMade, MakesSequence, MakesTable as TableMade, lacks_sequence}
use Rattle.sqlite.specs.Effect.{Database}
use Rattle.sqlite.specs.Schema.{Schema}
use Rattle.sqlite.specs.State.{State, mode_of}
use Rattle.sqlite.specs.Table.{Table}
use Rattle.sqlite.specs.Tree.{Trees}
use Rattle.sqlite.specs.declared.error.Error.{Error}
use Rattle.sqlite.specs.declared.run.Mode.{Mode}
use Rattle.sqlite_catalog.specs.Calls.{RefusesIndex, RefusesTable}
use Rattle.sqlite_catalog.specs.Change.{automatics, is_reserved, is_used}
use Rattle.sqlite_catalog.specs.Listing.{is_fit, is_formed}
use Rattle.sqlite_catalog.specs.declared.error.Refusal as alter
use Rattle.sqlite_catalog.specs.declared.error.Refusal.TheVariants.{BadKey, BadName, BadText, Invalid, NameTaken, TooBig, Violates}
use Rattle.sqlite_rules.specs.Lists.{Has}
use Rattle.sqlite_rules.proofs.ListLemmas.{test_has}
use Rattle.sqlite_schema.specs.Rules.{index_reals, passes, table_reals}
use Rattle.sqlite_schema.specs.declared.schema.Constraint.TheVariants.{Unique}
use Rattle.sqlite_schema.specs.declared.schema.Index.{Index}
use Rattle.sqlite_value.specs.declared.value.Value.TheVariants.{Text}
use Rattle.sql_texts.specs.Meaning.{MakesIndex, MakesTable}
use Rattle.sql_writes.proofs.RefusalFacts.{both, gave, halts}
use Rattle.sql_rows.proofs.StatementFacts.{on_table, same_value}

-- ---- names that are new

ascii_at : (text : List ℕ) → list_all is_ascii text ≡ true → (i : ℕ) → slice_index text i < 128
ascii_at [] all i = omega arith
ascii_at (b ∷ text) all zero = ltb-true b 128 (and_parts (is_ascii b) (list_all is_ascii text) all).0
ascii_at (b ∷ text) all (suc i) = ascii_at text (and_parts (is_ascii b) (list_all is_ascii text) all).1 i

ascii_utf8 : (text : List ℕ) → list_all is_ascii text ≡ true → IsUtf8 text
ascii_utf8 text ascii = IsUtf8-from_ascii text (ascii_at text ascii)

-- what passes all tests passes each
all_true : (tests : List Bool) → list_all (λ test. test) tests ≡ true → AllByRecursion (λ test. test ≡ true) tests
all_true [] is = tt
all_true (test ∷ tests) is = let parts = and_parts test (list_all (λ other. other) tests) is in (parts.0, all_true tests parts.1)

-- a table, or an index, whose names are used by nothing in the schema, and which has its key
pub record IsNew (before : Schema) (table : Table) : Type 0 where
  pub free : is_used before table.name ≡ false
  pub keys_free : list_all (λ (index : Index). not (is_used before index.name)) (automatics (record table { tree = 0 }) 0 0 table.uniques) ≡ true
  pub ascii : list_all is_ascii table.name ≡ true
  pub own : is_reserved table.name ≡ false
  pub short : nat_lt (length table.name) 1000 ≡ true
  pub few : nat_lt (next_tree before + length table.uniques) 65536 ≡ true
  pub reals : nat_lt (table_reals table) (2 ^ 64) ≡ true
  pub keys_reals : list_all (λ key. nat_lt (index_reals (table_reals table) key) (2 ^ 64)) table.uniques ≡ true
  pub formed : is_formed table ≡ true

-- the same as tests, by the last of which no sequence is wanted after the table came
abbrev pub table_tests : Schema → Schema → Table → List Bool
table_tests before after table =
    not (is_used before table.name)
    ∷ list_all (λ (index : Index). not (is_used before index.name)) (automatics (record table { tree = 0 }) 0 0 table.uniques)
    ∷ list_all is_ascii table.name ∷ not (is_reserved table.name) ∷ nat_lt (length table.name) 1000
    ∷ nat_lt (next_tree before + length table.uniques) 65536 ∷ nat_lt (table_reals table) (2 ^ 64)
    ∷ list_all (λ key. nat_lt (index_reals (table_reals table) key) (2 ^ 64)) table.uniques ∷ is_formed table ∷ not (lacks_sequence after) ∷ []

abbrev pub is_new : Schema → Schema → Table → Bool
is_new before after table = list_all (λ test. test) (table_tests before after table)

pub tested_new : (before after : Schema) (table : Table) → is_new before after table ≡ true → IsNew before table × (lacks_sequence after ≡ false)
tested_new before after table is =
    let all = all_true (table_tests before after table) is in (
      record {
        free = not-true _ all.0;
        keys_free = all.1.0;
        ascii = all.1.1.0;
        own = not-true _ all.1.1.1.0;
        short = all.1.1.1.1.0;
        few = all.1.1.1.1.1.0;
        reals = all.1.1.1.1.1.1.0;
        keys_reals = all.1.1.1.1.1.1.1.0;
        formed = all.1.1.1.1.1.1.1.1.0;
      },
      not-true _ all.1.1.1.1.1.1.1.1.1.0,
    )

below : {a b : ℕ} → nat_lt a b ≡ true → b ≤ a → ⊥
below {a} {b} low high = let it = ltb-true a b low in omega (arith, it, high)

module _ (before after : Schema) (text : List ℕ) (table : Table) (makes : MakesTable before text table after) (new : IsNew before table) where
  same_table : (other : Table) → table_defined_by text ≡ Ok other → other ≡ record table { tree = 0 }
  same_table other defined = same_value (sym defined ∙ makes.defined)

  never_refused : (why : alter.Refusal) → RefusesTable before text why → ⊥
  never_refused (Invalid e) it = let none = sym it ∙ makes.defined in cc
  never_refused NameTaken it =
      let same = same_table it.0 it.1 in
      elim it.2 [
        | inl used ↦ both (subst (λ (t : Table). is_used before t.name ≡ true) same used) new.free
        | inr key ↦ both (test_has _ _ key.0 new.keys_free (subst (λ (t : Table). Has (automatics t 0 0 t.uniques) key.0) same key.1)) (ap not key.2)
      ]
  never_refused BadName it =
      let same = same_table it.0 it.1 in
      elim it.2 [
        | inl odd ↦ odd (subst (λ (t : Table). IsUtf8 t.name) (sym same) (ascii_utf8 table.name new.ascii))
        | inr reserved ↦ both (subst (λ (t : Table). is_reserved t.name ≡ true) same reserved.0) new.own
      ]
  never_refused TooBig it =
      let same = same_table it.0 it.1 in
      elim it.2 [
        | inl many ↦ below new.few (subst (λ (t : Table). 65536 ≤ next_tree before + length t.uniques) same many)
        | inr more ↦ elim more [
          | inl wide ↦ below new.reals (subst (λ (t : Table). 2 ^ 64 ≤ table_reals t) same wide)
          | inr key ↦ below (test_has _ _ key.0 new.keys_reals (subst (λ (t : Table). Has t.uniques key.0) same key.1)) (subst (λ (t : Table). 2 ^ 64 ≤ index_reals (table_reals t) key.0) same key.2)
        ]
      ]
  never_refused BadKey it = both new.formed (subst (λ (t : Table). is_formed t ≡ false) (same_table it.0 it.1) it.2)
  never_refused BadText it = both makes.listable.fit (subst (λ (t : Table). is_fit (Text (codes "table")) (Text t.name) (Text t.name) (Text text) ≡ false) (same_table it.0 it.1) it.2)
  never_refused (Violates rule) it = it

  never_stops : (db : Database) → db.schema ≡ before → (stop : Option Error) → TableMade text db (Err stop) → ⊥
  never_stops db has None long =
      let same = same_table long.0 long.1 in
      let size = subst (λ (t : Table). 10 ^ 9 ≤ 2 * length t.name + length text + 200) same long.2 in
      let text_short = ltb-true _ _ makes.listable.short in
      let name_short = ltb-true _ _ new.short in
      omega (arith, size, text_short, name_short)
  never_stops db has (Some e) (inl odd) = odd.0 (ascii_utf8 text makes.listable.ascii)
  never_stops db has (Some e) (inr refused) = never_refused refused.0 (subst (λ s. RefusesTable s text refused.0) has refused.1)

  pub table_stops : (old : State) → old.now.schema ≡ before → lacks_sequence after ≡ false → (stop : Option Error)
      → Does old.step_limit (mode_of old) [] old.now text None CreateTable (Err stop) → IsSome old.step_limit
  table_stops old has unlacking stop h = absurd (halts h (λ s first. halts first (λ s′ made. never_stops old.now has s′ made) (λ on. sequenced s on.0 on.1 on.2)) (λ on. gave on.2))
    where
      sequenced : (s : Option Error) (made : Database) → TableMade text old.now (Ok made) → MakesSequence made (Err s) → ⊥
      sequenced s made it more =
          let schema : made.schema ≡ after = it.is ∙ ap (λ was. created was it.table) has ∙ ap (created before) (same_table it.table it.defined) ∙ makes.made in
          let none : lacks_sequence made.schema ≡ false = ap lacks_sequence schema ∙ unlacking in
          gave (rw none at more)

-- ---- an index

-- an index on a table whose name is used by nothing in the schema
pub record IsNewIndex (before : Schema) (table : Table) (index : Index) : Type 0 where
  pub free : is_used before index.name ≡ false
  pub ascii : list_all is_ascii index.name ≡ true
  pub table_ascii : list_all is_ascii table.name ≡ true
  pub own : is_reserved index.name ≡ false
  pub short : nat_lt (length index.name) 1000 ≡ true
  pub table_short : nat_lt (length table.name) 1000 ≡ true
  pub few : nat_lt (next_tree before) 65536 ≡ true
  pub reals : nat_lt (table_reals table) (2 ^ 64) ≡ true
  pub key_reals : nat_lt (index_reals (table_reals table) index.columns) (2 ^ 64) ≡ true

-- the same as tests
abbrev pub index_tests : Schema → Table → Index → List Bool
index_tests before table index =
    not (is_used before index.name) ∷ list_all is_ascii index.name ∷ list_all is_ascii table.name ∷ not (is_reserved index.name)
    ∷ nat_lt (length index.name) 1000 ∷ nat_lt (length table.name) 1000 ∷ nat_lt (next_tree before) 65536
    ∷ nat_lt (table_reals table) (2 ^ 64) ∷ nat_lt (index_reals (table_reals table) index.columns) (2 ^ 64) ∷ []

abbrev pub is_new_index : Schema → Table → Index → Bool
is_new_index before table index = list_all (λ test. test) (index_tests before table index)

pub tested_new_index : (before : Schema) (table : Table) (index : Index) → is_new_index before table index ≡ true → IsNewIndex before table index
tested_new_index before table index is =
    let all = all_true (index_tests before table index) is in
    record {
      free = not-true _ all.0;
      ascii = all.1.0;
      table_ascii = all.1.1.0;
      own = not-true _ all.1.1.1.0;
      short = all.1.1.1.1.0;
      table_short = all.1.1.1.1.1.0;
      few = all.1.1.1.1.1.1.0;
      reals = all.1.1.1.1.1.1.1.0;
      key_reals = all.1.1.1.1.1.1.1.1.0;
    }

-- no row breaks a rule where there are no rows
keeps_empty : (schema : Schema) (db : Trees) (all : List Table) → AllByRecursion (λ t. db t.tree ≡ []) all
    → AllByRecursion (λ t. AllByRecursion (λ row. passes Unique schema db t row ≡ true) (db t.tree)) all
keeps_empty schema db [] empty = tt
keeps_empty schema db (table ∷ all) empty = (subst (AllByRecursion (λ row. passes Unique schema db table row ≡ true)) (sym empty.0) tt, keeps_empty schema db all empty.1)

module _ (before after : Schema) (text : List ℕ) (table_index : ℕ) (table : Table) (index : Index) (makes : MakesIndex before text table_index table index after)
    (new : IsNewIndex before table index) (at : slice_get before.tables table_index ≡ Some table) (db : Database) (has : db.schema ≡ before)
    (empty : AllByRecursion (λ t. db.trees t.tree ≡ []) before.tables) (no_rows : db.trees table.tree ≡ []) where
  same_index : (other : Index) → index_defined_by table text ≡ Ok other → other ≡ record index { tree = 0 }
  same_index other defined = same_value (sym defined ∙ makes.defined)

  no_refusal : (why : alter.Refusal) → RefusesIndex before db.trees table text why → ⊥
  no_refusal (Invalid e) it = let none = sym it ∙ makes.defined in cc
  no_refusal NameTaken it = both (subst (λ (i : Index). is_used before i.name ≡ true) (same_index it.0 it.1) it.2) new.free
  no_refusal BadName it =
      let same = same_index it.0 it.1 in
      elim it.2 [
        | inl bad ↦ elim bad [
          | inl odd ↦ odd (subst (λ (i : Index). IsUtf8 i.name) (sym same) (ascii_utf8 index.name new.ascii))
          | inr reserved ↦ both (subst (λ (i : Index). is_reserved i.name ≡ true) same reserved.0) new.own
        ]
        | inr odd ↦ odd (ascii_utf8 table.name new.table_ascii)
      ]
  no_refusal TooBig it =
      elim it.2 [
        | inl many ↦ below new.few many
        | inr more ↦ elim more [
          | inl wide ↦ below new.reals wide
          | inr key ↦ below new.key_reals (subst (λ (i : Index). 2 ^ 64 ≤ index_reals (table_reals table) i.columns) (same_index it.0 it.1) key)
        ]
      ]
  no_refusal BadKey it = it
  no_refusal BadText it =
      both makes.listable.fit (subst (λ (i : Index). is_fit (Text (codes "index")) (Text i.name) (Text table.name) (Text text) ≡ false) (same_index it.0 it.1) it.2)
  no_refusal (Violates rule) it = it.3 (keeps_empty (indexed before table it.0) db.trees before.tables empty)

  no_stop : (stop : Option Error) → IndexMade text db table (Err stop) → ⊥
  no_stop None long = elim long.2 [
    | inl size ↦
        let name = subst (λ (i : Index). 10 ^ 9 ≤ length i.name + length table.name + length text + 200) (same_index long.0 long.1) size in
        let text_short = ltb-true _ _ makes.listable.short in
        let name_short = ltb-true _ _ new.short in
        let table_short = ltb-true _ _ new.table_short in
        omega (arith, name, text_short, name_short, table_short)
    | inr wide ↦ subst (λ rows. Has rows wide.0) no_rows wide.1
  ]
  no_stop (Some e) (inl odd) = odd.0 (ascii_utf8 text makes.listable.ascii)
  no_stop (Some e) (inr refused) = no_refusal refused.0 (subst (λ s. RefusesIndex s db.trees table text refused.0) has refused.1)

  pub index_stops : (limit : Option ℕ) (mode : Mode) (stop : Option Error) → Does limit mode [] db text None (CreateIndex table_index) (Err stop) → ⊥
  index_stops limit mode stop h =
      let here : slice_get db.schema.tables table_index ≡ Some table = ap (λ s. slice_get s.tables table_index) has ∙ at in
      let made = on_table limit mode [] db table_index (λ task. Defines mode (IndexMade text db task.table)) table (Err stop) here h in
      halts made (λ s first. no_stop s first) (λ on. gave on.2)
