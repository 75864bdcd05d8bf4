-- What the statements that make a database of version 1 one of version 2 leave of it.
use Rattle.std.proofs.Common.{◌≡◌, ◌∙◌, ℕ, List, [], ◌∷◌, Err, IsTrue, Ok, OnOk, Result, ap, refl, subst, sym}
use Rattle.std.specs.Prelude.{◌==◌, cond, filter, not, take}
use Rattle.std.specs.List.{AllByRecursion}
use Rattle.sqlite.specs.Change.{KeepsRows}
use Rattle.sqlite.specs.Order.{Row}
use Rattle.sqlite.specs.Effect.{Database}
use Rattle.sqlite.specs.State.{HasCleanDisk, State}
use Rattle.sqlite.specs.Table.{Table}
use Rattle.sqlite.specs.Tree.{Trees}
use Rattle.sqlite_schema.specs.Rules.{Keeps}
use Rattle.sqlite_schema.specs.declared.schema.Constraint.TheVariants.{Unique}
use Rattle.sql_texts.specs.Found.{passes}
use Rattle.sql_texts.specs.Meaning.{MakesTable, Means}
use Rattle.sql_texts.specs.Schema.{bureau, bureau_1, bureau_version, sysmod_cond, tables}
use Rattle.sql_texts.specs.Writes.{delete_of, this_version}
use Rattle.sql_tables.specs.Stored.{Stored}
use Rattle.sql_tables.specs.Earlier.{IsOfVersion1, held_by_version_1}
use Rattle.sql_tables.specs.Numbered.{IsNumbered}
use Rattle.sql_tables.specs.Ours.{version_rows}
use Rattle.sql_writes.specs.Making.{Leads}
use Rattle.sql_writes.specs.Migrating.{HeldEarlier, HoldsAll}
use Rattle.sql_rows.specs.Running.{Ran}
use Rattle.sql_writes.proofs.MakeFacts.{leads_by, makes_table, one_more}
use Rattle.sql_rows.proofs.StatementFacts.{deletes, inserts_version}
use Rattle.sql_rows.proofs.StoredFacts.{held_alike, held_set, known_after}

numbered_still : (old new : Trees) (all : List Table) → AllByRecursion (λ table. IsNumbered (old table.tree)) all → KeepsRows all old new
    → AllByRecursion (λ table. IsNumbered (new table.tree)) all
numbered_still old new [] numbered kept = tt
numbered_still old new (table ∷ all) numbered kept = (subst IsNumbered (sym kept.0) numbered.0, numbered_still old new all numbered.1 kept.1)

module _ {A F : Type 0} (text : List ℕ) (old new : State) (result : Result A F) where
  -- the table comes, without a row
  pub table_added : MakesTable bureau_1 text sysmod_cond bureau → Ran text [] old new result → (stored : Stored) → Leads old new result (HeldEarlier stored) (HoldsAll (version_rows 1) stored)
  table_added makes ran stored = leads_by text [] old new result (HeldEarlier stored) (HoldsAll (version_rows 1) stored) ran (λ count executes from.
      let has = makes_table bureau_1 bureau text sysmod_cond old new count makes refl from.ours.schema executes in
      let k = has.others in
      record {
        known = record {
          schema = has.schema;
          sound = has.sound;
          numbered = one_more (λ table. IsNumbered (new.now.trees table.tree)) (take 9 tables) sysmod_cond
              (numbered_still old.now.trees new.now.trees (take 9 tables) from.ours.rows.numbered k) (subst IsNumbered (sym has.empty) (tt, tt));
        };
        version = k.0 ∙ from.ours.rows.version;
        held = held_alike new.now.trees (λ t. cond (t == sysmod_cond.tree) [] (old.now.trees t))
            (one_more (λ table. new.now.trees table.tree ≡ cond (table.tree == sysmod_cond.tree) [] (old.now.trees table.tree)) (take 9 tables) sysmod_cond has.others has.empty) ∙ from.held;
      })

  -- the version goes
  pub version_goes : Means bureau text (delete_of 0 0 []) 0 → Ran text [] old new result → (stored : Stored) → Leads old new result (HoldsAll (version_rows 1) stored) (HoldsAll [] stored)
  version_goes means ran stored = leads_by text [] old new result (HoldsAll (version_rows 1) stored) (HoldsAll [] stored) ran (λ count executes from.
      let set = deletes text 0 bureau_version [] 0 [] old new count means refl from.known.schema from.known.numbered.0 executes in
      record {
        known = known_after 0 _ old.now new.now from.known.numbered set;
        version = set.rows_are ∙ ap (filter (λ row. not (passes [] [] row))) from.version;
        held = held_set 0 _ old.now new.now set ∙ from.held;
      })

  -- and comes anew
  pub version_comes_anew : Means bureau text this_version 0 → Ran text [] old new result → (stored : Stored) → Leads old new result (HoldsAll [] stored) (HoldsAll (version_rows 2) stored)
  version_comes_anew means ran stored = leads_by text [] old new result (HoldsAll [] stored) (HoldsAll (version_rows 2) stored) ran (λ count executes from.
      let set = inserts_version text old new count means from.known.schema from.version executes in
      record {
        known = known_after 0 (version_rows 2) old.now new.now from.known.numbered set;
        version = set.rows_are;
        held = held_set 0 (version_rows 2) old.now new.now set ∙ from.held;
      })

-- the rows of a database of version 1 that is ours are its own
pub from_version_1 : {A F : Type 0} (old new : State) (result : Result A F) (To : Database → Type 0) → Leads old new result (HeldEarlier (held_by_version_1 old.now)) To → Leads old new result IsOfVersion1 To
from_version_1 {A} {F} old new result To leads = record { keeps = leads.keeps; survives = leads.survives; done = by result leads.done }
  where
    by : (r : Result A F)
        → OnOk r (HasCleanDisk new → IsTrue old.in_transaction → IsTrue new.is_open × IsTrue new.in_transaction × (HeldEarlier (held_by_version_1 old.now) old.now → To new.now))
        → OnOk r (HasCleanDisk new → IsTrue old.in_transaction → IsTrue new.is_open × IsTrue new.in_transaction × (IsOfVersion1 old.now → To new.now))
    by (Ok a) done = λ clean inside. let it = done clean inside in (it.0, it.1, λ ours. it.2 (record { ours = ours; held = refl }))
    by (Err e) done = tt

-- the keys of the rows of version 2 are each there once
pub keys_once : (of_version : List Row) (stored : Stored) (database : Database) → HoldsAll of_version stored database → Keeps Unique bureau database.trees
keys_once of_version stored database is = subst (λ schema. Keeps Unique schema database.trees) is.known.schema (is.known.sound.obeys.rules Unique)
