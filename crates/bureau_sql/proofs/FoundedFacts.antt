-- What a transaction that makes tables leaves of the connection.
use Rattle.std.proofs.Common.{◌≡◌, ◌∙◌, Err, IsOk, IsTrue, List, Ok, OnErr, OnOk, Result, ap, false, refl, subst, sym, true}
use Rattle.sqlite.specs.Effect.{Database}
use Rattle.sqlite.specs.Held.{Held, state}
use Rattle.sqlite.specs.State.{HasCleanDisk, KeepsCommit, Shows, State, Survives}
use Rattle.sqlite.proofs.Callers.{survives_begin}
use Rattle.sqlite.proofs.StateLemmas.{survives_then}
use Rattle.sqlite_catalog.specs.Listing.{IsSound}
use Rattle.sqlite_trees.specs.declared.store.Store.{Ghosts}
use Rattle.std.specs.List.{AllByRecursion}
use Rattle.mcs_reader.specs.Id.{IsId}
use Rattle.bureau_store.specs.Tables as tables
use Rattle.bureau_store.specs.declared.caller.CallerRow.{CallerRow}
use Rattle.sql_tables.specs.Ours.{IsOurs, held_by}
use Rattle.sql_tables.proofs.ChangeFacts.{opened_tables}
use Rattle.sql_tables.proofs.WholeFacts.{whole_opened}
use Rattle.sql_tables.specs.Stored.{tables_of}
use Rattle.sql_tables.specs.Whole.{IsWhole}
use Rattle.sql_writes.specs.Making.{IsOpened, Leads}
use Rattle.bureau_sql.specs.Founded.{AreLed, IsLed}
use Rattle.sql_tables.proofs.StopFacts.{kept_begun, kept_then, no_read, was_clean}

-- The connection at rest, as its transaction begins, after what was written, and after the end.
module _ (old begun mid new : State) (From To : Database → Type 0) (same_now : begun.now ≡ old.now) (same_committed : begun.committed ≡ old.committed)
    (same_open : begun.is_open ≡ old.is_open) (inside : IsTrue begun.in_transaction) (settled : IsTrue old.is_open → old.now ≡ old.committed) where
  kept : KeepsCommit begun mid → KeepsCommit mid new → KeepsCommit old new
  kept first then = kept_then old begun new (kept_begun old begun same_committed same_open) (kept_then begun mid new first then)

  written_so : {Answer Fault : Type 0} (written : Result Answer Fault) → Leads begun mid written From To → IsOk written → HasCleanDisk mid
      → IsTrue old.is_open × IsTrue mid.is_open × (From old.committed → To mid.now)
  written_so (Err e) leads none clean = absurd cc
  written_so (Ok a) leads done clean =
      let made = leads.done clean inside in
      let was = subst IsTrue same_open ((leads.keeps clean inside).was_open made.0) in
      (was, made.0, λ from. made.2 (subst From (sym (same_now ∙ settled was)) from))

  pub is_led : {Answer Fault Done Refusal : Type 0} (written : Result Answer Fault) (result : Result Done Refusal) → Survives old begun (λ trees. ⊥) → Leads begun mid written From To
      → OnOk result (IsOk written × (HasCleanDisk new → Shows mid new mid.now mid.now false)) → OnErr result (HasCleanDisk new → KeepsCommit mid new)
      → Survives mid new (λ trees. IsOk written × (trees ≡ mid.now.trees)) → IsLed old new result From To
  is_led {Answer} {Fault} {Done} {Refusal} written result begins leads ends refused survives = record {
    done = done result ends;
    refused = as_before result refused;
    survives = survives_then old begun new (λ trees. ⊥) (AreLed old From To) (AreLed old From To) (λ clean trees none. absurd none) (λ clean trees made. made) begins
        (survives_then begun mid new (λ trees. ⊥) (λ trees. IsOk written × (trees ≡ mid.now.trees)) (AreLed old From To) (λ clean trees none. absurd none)
        (λ clean trees left.
        let made = written_so written leads left.0 (before clean) in
        (made.0, λ from. (mid.now, made.2 from, sym left.1))) leads.survives survives);
  }
    where
      before : HasCleanDisk new → HasCleanDisk mid
      before = was_clean mid new (λ trees. IsOk written × (trees ≡ mid.now.trees)) survives

      done : (result : Result Done Refusal) → OnOk result (IsOk written × (HasCleanDisk new → Shows mid new mid.now mid.now false))
          → OnOk result (HasCleanDisk new → IsTrue old.is_open × IsTrue new.is_open × (From old.committed → To new.committed))
      done (Err e) ends = tt
      done (Ok a) ends = λ clean.
          let shows = ends.1 clean in
          let made = written_so written leads ends.0 (before clean) in
          (made.0, shows.is_open, λ from. subst To (sym shows.committed_is) (made.2 from))

      as_before : (result : Result Done Refusal) → OnErr result (HasCleanDisk new → KeepsCommit mid new) → OnErr result (HasCleanDisk new → KeepsCommit old new)
      as_before (Ok a) refused = tt
      as_before (Err e) refused = λ clean. kept (leads.keeps (before clean) inside) (refused clean)

-- a transaction that is begun on a connection at rest, written into, and ended
pub transaction_led : {S : Type 0} (g : Ghosts S) (old begun mid last : Held S) (From To : Database → Type 0) → begun ≡ record old { in_transaction = true }
    → (IsTrue (state g old).is_open → (state g old).now ≡ (state g old).committed) → {Answer Fault Done Refusal : Type 0} (written : Result Answer Fault) (result : Result Done Refusal)
    → Leads (state g begun) (state g mid) written From To → OnOk result (IsOk written × (HasCleanDisk (state g last) → Shows (state g mid) (state g last) (state g mid).now (state g mid).now false))
    → OnErr result (HasCleanDisk (state g last) → KeepsCommit (state g mid) (state g last))
    → Survives (state g mid) (state g last) (λ trees. IsOk written × (trees ≡ (state g mid).now.trees)) → IsLed (state g old) (state g last) result From To
transaction_led g old begun mid last From To is settled written result leads ends refused survives =
    is_led (state g old) (state g begun) (state g mid) (state g last) From To (ap (λ h. (state g h).now) is) (ap (λ h. (state g h).committed) is) (ap (λ h. (state g h).is_open) is)
    (subst (λ h. IsTrue h.in_transaction) (sym is) refl) settled written result
    (subst (λ h. Survives (state g old) (state g h) (λ trees. ⊥)) (sym is) (survives_begin g old (state g (record old { in_transaction = true })) (λ trees. ⊥) (no_read (state g (record old { in_transaction = true }))).survives))
    leads ends refused survives

-- ---- a store with callers alone is ours

pub ours_new : (callers : List CallerRow) (database : Database) → AllByRecursion (λ (caller : CallerRow). IsId caller.name) callers → IsOpened callers database → IsOurs database
ours_new callers database named is = record {
  schema = is.known.schema;
  rows = record {
    sound = subst (λ schema. IsSound schema database.trees) is.known.schema is.known.sound;
    numbered = is.known.numbered;
    version = is.version;
    whole = subst IsWhole (sym is.held) (whole_opened callers named);
  };
}

pub tables_new : (callers : List CallerRow) (database : Database) → AllByRecursion (λ (caller : CallerRow). IsId caller.name) callers → IsOpened callers database
    → tables_of (held_by database) ≡ tables.opened callers
tables_new callers database named is = ap tables_of is.held ∙ opened_tables callers named
