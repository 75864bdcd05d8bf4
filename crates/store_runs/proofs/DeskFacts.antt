-- What `init` leaves of a database, and what it and an opening tell.
use Rattle.std.proofs.Common.{◌≡◌, ◌⊎◌, ◌∙◌, ℕ, List, Option, None, Some, Ok, IsTrue, ap, arith, inl, inr, refl, subst, sym}
use Rattle.std.specs.Prelude.{Bool, is_none}
use Rattle.std.specs.Io.KnownBytes.{Keeps}
use Rattle.faults.specs.declared.any.AnyFault.{AnyFault}
use Rattle.bureau_sql.proofs.CallersFacts.{callers_fit}
use Rattle.bureau_sql.specs.Founded.{AreFounded, FailsToFound, IsNotMade}
use Rattle.bureau_sql.specs.Opening.{HasConditions, HasTables}
use Rattle.bureau_sql.specs.SqlState.{SqlState}
use Rattle.bureau_sql.specs.SqlView.{IsAtRest, IsOurStore, shown, sql_view}
use Rattle.sqlite_disk.specs.declared.Disk as disk
use Rattle.sqlite_store.specs.declared.store.FileStore.{FileStore}
use Rattle.sqlite_trees.specs.declared.store.Store.{Ghosts}
use Rattle.sqlite_wal.specs.Recovery.{Image}
use Rattle.sqlite.specs.Files.{file_state}
use Rattle.sqlite.specs.Held.{Held, state}
use Rattle.sqlite.specs.State.{HasCleanDisk, KeepsCommit, State, Survives}
use Rattle.sql_reads.specs.Version.{HasVersion}
use Rattle.sql_tables.specs.Earlier.{IsOfVersion1}
use Rattle.sql_tables.specs.Ours.{IsOurs, held_by}
use Rattle.sql_tables.specs.Reading.{OnlyReads}
use Rattle.sql_tables.specs.Stored.{tables_of}
use Rattle.sql_writes.specs.Making.{AreFit}
use Rattle.bureau_store.specs.Callers.{callers_of}
use Rattle.bureau_store.specs.declared.caller.CallerRow.{CallerRow}
use Rattle.bureau_store.specs.declared.fault.StoreFault.{StoreFault}
use Rattle.store_runs.specs.Asked.{Asked, AsksFor, Connected, refused_with}
use Rattle.store_runs.specs.Desk.{HasOpened, InitSurvives, IsInitLeft, IsInitRefused, IsInitRun, IsOpenRefused, of_store, of_unopened}
use Rattle.store_runs.specs.Ended.{HasFound, IsEndOf, IsRefused}
use Rattle.store_runs.specs.Missing.{if_missing, makes}
use Rattle.store_runs.specs.declared.missing.IfMissing.{IfMissing}
use Rattle.run_parts.specs.Outputs.{IsEndedBy, IsTold, run_status, IsToldAlone, Outputs}
use Rattle.run_parts.specs.ProgramFault.{of_program}
use Rattle.run_parts.specs.declared.fault.ProgramFault.{ProgramFault}
use Rattle.run_parts.specs.declared.fault.ProgramFault.TheVariants.{Memory, NotRead}
use Rattle.faults.specs.Refusal.{IsRefusal}
use Rattle.store_runs.specs.NamedStore.{IsInit, IsLookedAt}
use Rattle.run_parts.specs.Files.{KnownFile}
use Rattle.store_runs.specs.declared.ended.Ended.{Ended}
use Rattle.store_runs.proofs.AskedFacts.{once_connected, once_refused}
use Rattle.store_runs.proofs.StayFacts.{kept_found}
use Rattle.store_runs.proofs.KeptFacts.{kept_made}

-- ---- what is left of a database

pub nothing_committed : (at : State) → KeepsCommit at at
nothing_committed at = record { was_open = λ h. h; committed = λ h. refl }

pub none_left : (fault : AnyFault) (source : List ℕ) (before after : State) → IsInitRefused source before after fault → (HasCleanDisk after → KeepsCommit before after)
    → IsInitLeft (Some fault) source before after
none_left fault source before after why kept = inr (why, kept)

-- no store is made, with the callers of a callers file, which are fit
pub none_made : (source : List ℕ) (rows slice : List CallerRow) (before after : State) (refused : StoreFault) (fault : AnyFault) → callers_of source ≡ Ok rows → slice ≡ rows → fault ≡ of_store refused
    → IsNotMade before refused → (HasCleanDisk after → FailsToFound before after slice refused) → IsInitRefused source before after fault
none_made source rows slice before after refused fault read same is why failed =
    inr (refused, is, why, λ clean. failed clean (subst AreFit (sym same) (callers_fit source rows read)))

-- what a stop may leave where nothing was asked of the database
pub stays_alive : (source : List ℕ) (at : State) → InitSurvives source at at
stays_alive source at = record {
  clean = omega arith;
  shield = λ h. h;
  counts = omega arith;
  limit = refl;
  closes = λ clean was. inl was;
  crash = λ clean trees left. inl left;
}

-- and where the tables were made, or were to be
pub founded : (source : List ℕ) (rows slice : List CallerRow) (before after : State) → callers_of source ≡ Ok rows → slice ≡ rows
    → Survives before after (AreFounded before slice) → InitSurvives source before after
founded source rows slice before after read same survives = record {
  clean = survives.clean;
  shield = survives.shield;
  counts = survives.counts;
  limit = survives.limit;
  closes = survives.closes;
  crash = λ clean trees left. elim (survives.crash clean trees left) [
    | inl was ↦ inl was
    | inr now ↦ inr (slice, read ∙ ap Ok (sym same), now)
  ];
}

-- ---- a store that is opened

-- the store over a connection in which one was found
pub opened_over : {S : Type 0} (g : Ghosts S) (before : State) (conn : Held S) (store : SqlState S) → (store.conn ≡ conn) × (store.failures ≡ 0) → OnlyReads before (state g conn)
    → (HasCleanDisk (state g conn) → IsTrue (state g conn).is_open) → (HasCleanDisk (state g conn) → HasVersion (Some 2) before.committed)
    → (HasCleanDisk (state g conn) → HasTables before.committed.schema × HasConditions before.committed.schema) → (HasCleanDisk (state g conn) → IsOfVersion1 before.committed → ⊥)
    → (IsTrue (state g conn).is_open → IsOurs (state g conn).committed → IsOurStore g store) → (sql_view g).stands store (tables_of (held_by (state g conn).committed)) → IsAtRest (shown g store)
    → HasOpened g before store
opened_over g before conn store is reads is_open version found other ours tables rests =
    let back : HasCleanDisk (shown g store) → HasCleanDisk (state g conn) = subst (λ (at : Held _). HasCleanDisk (state g at)) is.0 in
    let same : HasCleanDisk (state g conn) → (state g conn).committed ≡ before.committed = λ clean. (reads.keeps clean).committed (is_open clean) in
    record {
      opened = is.1;
      reads = subst (λ (at : Held _). OnlyReads before (state g at)) (sym is.0) reads;
      version = λ clean. version (back clean);
      other = λ clean. other (back clean);
      found = λ clean. found (back clean);
      ours = λ clean was. ours (is_open (back clean)) (subst IsOurs (sym (same (back clean))) was);
      tables = λ clean. subst (λ database. (sql_view g).stands store (tables_of (held_by database))) (same (back clean)) tables;
      rests = rests;
    }

-- ---- what is told

pub open_refused : (Has : StoreFault → Type 0) (fault : StoreFault) (any : AnyFault) (old new : Option (List ℕ)) (status : ℕ) → Has fault
    → any ≡ of_store fault → IsTold (Some any) old new → status ≡ run_status (Some any) → IsOpenRefused Has old new status
open_refused Has fault any old new status has is told status_is =
    (fault, has, subst (λ (it : AnyFault). IsTold (Some it) old new) is told, status_is ∙ ap (λ it. run_status (Some it)) is)

-- the callers file can't be read, or memory ran out
pub not_read : (fault : ProgramFault) (outputs : Outputs) (status : ℕ) → IsRefusal Memory (λ fault. fault ≡ NotRead) fault → Keeps outputs.output outputs.written
    → IsTold (Some (of_program fault)) outputs.errors outputs.told → status ≡ 3 → IsEndedBy NotRead outputs status ⊎ IsEndedBy Memory outputs status
not_read fault outputs status (inl memory) keeps told is = inr (keeps, subst (λ (it : ProgramFault). IsTold (Some (of_program it)) outputs.errors outputs.told) memory told, is)
not_read fault outputs status (inr unread) keeps told is = inl (keeps, subst (λ (it : ProgramFault). IsTold (Some (of_program it)) outputs.errors outputs.told) unread told, is)

-- ---- over files

made_for_none : (sums : Bool) (theirs : Option AnyFault) → makes (if_missing sums theirs) ≡ is_none theirs
made_for_none sums None = refl
made_for_none sums (Some fault) = refl

module _ (files : List ℕ → KnownFile) (asked asked_after : Asked) (from : Image) {D : Type 0} {g : disk.Ghosts D} (ended : Ended D g)
    (name callers source : List ℕ) (theirs : Option AnyFault) (is : IsLookedAt (files callers) source theirs) (sums : Bool) (missing : IfMissing) (missing_is : missing ≡ if_missing sums theirs) (outputs : Outputs) (status : ℕ) where
  -- a connection was made, a store was made in its database or not, and it was ended
  pub made_over_files : (found left : Held (FileStore D g)) → AsksFor asked asked_after name missing from Connected
      → HasFound from found → IsEndOf left ended → IsAtRest (file_state found) → InitSurvives source (file_state found) (file_state left)
      → IsInitRun (λ outcome. IsInitLeft outcome source (file_state found) (file_state left)) source outputs.output outputs.written outputs.errors outputs.told status
      → IsInit files asked asked_after from sums name callers outputs status ended
  made_over_files found left asks finds ends rested stopped run = inl (record {
    source = source;
    theirs = theirs;
    callers_are = is;
    made = record {
      outcome = run.outcome;
      left = record { found = found; finds = finds; left = left; used = (rested, run.left, stopped); ends = ends };
      output = run.output;
      told = run.told;
      status_is = run.status_is;
    };
    kept = kept_made from source run.outcome ended (record { found = found; finds = finds; left = left; used = (rested, run.left, stopped); ends = ends });
    asks = once_connected asked asked_after name (if_missing sums theirs) from (λ fault. run.outcome ≡ Some (of_store fault)) ended left ends
        (subst (λ (it : IfMissing). AsksFor asked asked_after name it from Connected) missing_is asks);
  })

  -- no connection could be made
  pub not_connected : (fault : StoreFault) (any : AnyFault) → AsksFor asked asked_after name missing from (refused_with fault ended)
      → IsRefused (makes missing) from fault ended → any ≡ of_unopened theirs fault → Keeps outputs.output outputs.written → IsTold (Some any) outputs.errors outputs.told → status ≡ run_status (Some any)
      → IsInit files asked asked_after from sums name callers outputs status ended
  not_connected fault any asks refused same keeps told status_is = inr (inl (record {
    source = source;
    theirs = theirs;
    callers_are = is;
    fault = fault;
    refused = subst (λ (it : Bool). IsRefused it from fault ended) (ap makes missing_is ∙ made_for_none sums theirs) refused;
    kept = kept_found from ended refused.left;
    told = subst (λ (any : AnyFault). IsToldAlone any outputs status) same (keeps, told, status_is);
    asks = once_refused asked asked_after name (if_missing sums theirs) from (λ told. told ≡ fault) ended fault refused.left refl
        (subst (λ (it : IfMissing). AsksFor asked asked_after name it from (refused_with fault ended)) missing_is asks);
  }))

module _ (files : List ℕ → KnownFile) (asked asked_after : Asked) (from : Image) {D : Type 0} {g : disk.Ghosts D} (ended : Ended D g) where
  -- the same of names that are the same
  pub same_init : (sums : Bool) (name name_slice callers callers_slice : List ℕ) (outputs : Outputs) (status : ℕ) → name_slice ≡ name → callers_slice ≡ callers
      → IsInit files asked asked_after from sums name_slice callers_slice outputs status ended → IsInit files asked asked_after from sums name callers outputs status ended
  same_init sums name name_slice callers callers_slice outputs status same same_callers init =
      subst (λ (it : List ℕ). IsInit files asked asked_after from sums it callers outputs status ended) same
      (subst (λ (it : List ℕ). IsInit files asked asked_after from sums name_slice it outputs status ended) same_callers init)
