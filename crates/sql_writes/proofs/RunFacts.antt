-- What statements make of a database, whatever tables it has.
use Rattle.std.proofs.Common.{◌≡◌, ℕ, false, List, [], Option, Result, Ok, inl, inr, subst}
use Rattle.std.proofs.lemmas.Bool.{cases_Bool}
use Rattle.sqlite.specs.Calls.{IsWrite}
use Rattle.sqlite.specs.Command.{Command}
use Rattle.sqlite.specs.Command.TheVariants.{CreateIndex, CreateTable, CreateView, Delete, DropIndex, DropTable, DropView, Insert, InsertOr, Update}
use Rattle.sqlite.specs.Does.{Does, Tally}
use Rattle.sqlite.specs.Effect.{Database}
use Rattle.sqlite.specs.Order.{Row}
use Rattle.sqlite.specs.State.{Executes, ExecutesIn, Runs, State, mode_of, shows_rows}
use Rattle.sqlite_schema.specs.declared.command.Returning.{Returning}
use Rattle.sql_texts.specs.Meaning.{MakesTable, Means}
use Rattle.sql_texts.specs.Schema.{bureau, bureau_1, sysmod_cond}
use Rattle.sql_texts.specs.Writes.{delete_of, this_version}
use Rattle.sql_writes.specs.Making.{Leads}
use Rattle.sql_writes.specs.Migrating.{IsMigration, IsRunOf, IsWithConditions, IsWithoutVersion}
use Rattle.sql_rows.specs.Running.{Ran}
use Rattle.sql_writes.proofs.MakeFacts.{leads_by}

done_by : (old new : State) (returning : Option Returning) (command : Command) (text : List ℕ) (params : Row) (count : ℕ) → IsWrite command → Runs old new returning command text params count
    → (tally : Tally) × Does old.step_limit (mode_of old) params old.now text returning command (Ok (tally, new.now))
done_by old new returning (Insert at from) text params count writes w = (w.tally, w.changed)
done_by old new returning (InsertOr at how from clauses) text params count writes w = (w.tally, w.changed)
done_by old new returning (Update at q) text params count writes w = (w.tally, w.changed)
done_by old new returning (Delete at q) text params count writes w = (w.tally, w.changed)
done_by old new returning CreateTable text params count writes w = (w.tally, w.changed)
done_by old new returning (CreateIndex at) text params count writes w = (w.tally, w.changed)
done_by old new returning (DropTable at) text params count writes w = (w.tally, w.changed)
done_by old new returning (DropIndex at) text params count writes w = (w.tally, w.changed)
done_by old new returning CreateView text params count writes w = (w.tally, w.changed)
done_by old new returning (DropView at) text params count writes w = (w.tally, w.changed)
done_by old new returning _ text params count writes w = absurd writes

run_of : (text : List ℕ) (old new : State) (count : ℕ) → Executes text [] old new (Ok count) → IsRunOf text old.now new.now
unfolding ExecutesIn
run_of text old new count h = (
  h.0,
  h.1.is,
  λ writes. elim (cases_Bool (shows_rows false h.0)) [
    | inl shows ↦ absurd (let e = (rw shows at h.2).0 in cc)
    | inr runs ↦ let it = done_by old new h.0.returning h.0.command _ _ count writes (rw runs at h.2) in (old.step_limit, h.1.now, it.0, it.1)
  ],
)

module _ {A F : Type 0} (text : List ℕ) (old new : State) (result : Result A F) (before : Database) (ran : Ran text [] old new result) where
  pub conditions_come : MakesTable bureau_1 text sysmod_cond bureau → Leads old new result (λ database. database ≡ before) (IsWithConditions before)
  conditions_come makes = leads_by text [] old new result (λ database. database ≡ before) (IsWithConditions before) ran
      (λ count executes from. (text, makes, subst (λ database. IsRunOf text database new.now) from (run_of text old new count executes)))

  pub version_leaves : Means bureau text (delete_of 0 0 []) 0 → Leads old new result (IsWithConditions before) (IsWithoutVersion before)
  version_leaves means = leads_by text [] old new result (IsWithConditions before) (IsWithoutVersion before) ran (λ count executes from. (old.now, from, text, means, run_of text old new count executes))

  pub version_follows : Means bureau text this_version 0 → Leads old new result (IsWithoutVersion before) (IsMigration before)
  version_follows means = leads_by text [] old new result (IsWithoutVersion before) (IsMigration before) ran (λ count executes from. (old.now, from, text, means, run_of text old new count executes))
